use Rattle.std.proofs.Common.{◌≡◌, ℕ, List, map, length, take, drop, sym, ap, ◌∙◌, arith}
use Rattle.std.specs.List.{position_or_len}
use Rattle.std.proofs.lemmas.List.{drop-map, take-map, length-drop, length-take-le}
use Rattle.entries.specs.Entries.{stored}
use Rattle.entries.specs.declared.entry.Entry.{Entry}
use Rattle.scripts.specs.Proofs.{acts, front, back}
use Rattle.scripts.proofs.derive.Script.split.Goals as goal

module _ (es : List (Entry ℕ)) {k : ℕ} {xs : List (Entry ℕ)} (is : k ≡ position_or_len acts (map stored es)) where
  front_is : xs ≡ take k es → map stored xs ≡ front (map stored es)
  front_is split = ap (map stored) split ∙ sym (take-map stored k es) ∙ ap (λ n. take n (map stored es)) is

  back_is : xs ≡ drop k es → map stored xs ≡ back (map stored es)
  back_is split = ap (map stored) split ∙ sym (drop-map stored k es) ∙ ap (λ n. drop n (map stored es)) is

pub returns : goal.returns
returns c =
    let es = c.args.self.now.entries.now in
    let place = c.count_front.ensures.place in
    record {
      front = front_is es place c.split_at.ensures.front;
      back = back_is es place c.split_at.ensures.back;
      whole = omega (arith, ap length c.split_at.ensures.front, ap length c.split_at.ensures.back, length-drop c.count_front.result es, length-take-le c.count_front.result es c.count_front.ensures.within);
    }
