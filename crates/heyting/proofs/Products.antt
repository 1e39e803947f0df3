-- The pairs of members of two Heyting algebras make one.
use Rattle.std.proofs.Common.{◌≡◌, ℕ, ◌*◌, ◌/◌, ◌%◌, ◌≤◌, Bool, true, false, cond, leb, sym, refl, ap, ◌∙◌, ap₂, div-lt_iff_lt-mul, div-add-mod'}
use Rattle.std.proofs.lemmas.Nat.{div-mul-add, mod-mul-add, mul-le}
use Rattle.std.proofs.lemmas.Bool.{and_parts, and_from, leb-true}
use Rattle.heyting.specs.Meaning.{Meaning, Lawful, Member, Below}
use Rattle.heyting.specs.Layers.{single, coded, pairs, product}
use Rattle.heyting.proofs.Nuclei.{single_lawful}

module _ (m n : Meaning) (l : Lawful m) (k : Lawful n) where
  first_code : (x y : ℕ) → Member n y → coded n.span x y / n.span ≡ x
  first_code x y h = div-mul-add x n.span y (k.inside y h)

  second_code : (x y : ℕ) → Member n y → coded n.span x y % n.span ≡ y
  second_code x y h = mod-mul-add x n.span y (k.inside y h)

  whole : (c : ℕ) → coded n.span (c / n.span) (c % n.span) ≡ c
  whole c = div-add-mod' c n.span

  pub in_first : (c : ℕ) → Member (pairs m n) c → Member m (c / n.span)
  in_first c h = (and_parts _ _ h).0

  pub in_second : (c : ℕ) → Member (pairs m n) c → Member n (c % n.span)
  in_second c h = (and_parts _ _ h).1

  in_code : (x y : ℕ) → Member m x → Member n y → Member (pairs m n) (coded n.span x y)
  in_code x y hx hy = and_from _ _ (ap m.member (first_code x y hy) ∙ hx) (ap n.member (second_code x y hy) ∙ hy)

  same : {x x' y y' : ℕ} → x ≡ x' → y ≡ y' → coded n.span x y ≡ coded n.span x' y'
  same p q = ap₂ (coded n.span) p q

  below_from : (a b : ℕ) → Below m (a / n.span) (b / n.span) → Below n (a % n.span) (b % n.span) → Below (pairs m n) a b
  below_from a b p q = same p q ∙ whole a

  module _ (a b : ℕ) (ha : Member (pairs m n) a) (hb : Member (pairs m n) b) where
    meet_second : Member n (n.meet (a % n.span) (b % n.span))
    meet_second = k.meet_in _ _ (in_second a ha) (in_second b hb)

    join_second : Member n (n.join (a % n.span) (b % n.span))
    join_second = k.join_in _ _ (in_second a ha) (in_second b hb)

    arrow_second : Member n (n.arrow (a % n.span) (b % n.span))
    arrow_second = k.arrow_in _ _ (in_second a ha) (in_second b hb)

    meet_0 : (pairs m n).meet a b / n.span ≡ m.meet (a / n.span) (b / n.span)
    meet_0 = first_code _ _ meet_second

    meet_1 : (pairs m n).meet a b % n.span ≡ n.meet (a % n.span) (b % n.span)
    meet_1 = second_code _ _ meet_second

    join_0 : (pairs m n).join a b / n.span ≡ m.join (a / n.span) (b / n.span)
    join_0 = first_code _ _ join_second

    join_1 : (pairs m n).join a b % n.span ≡ n.join (a % n.span) (b % n.span)
    join_1 = second_code _ _ join_second

    arrow_0 : (pairs m n).arrow a b / n.span ≡ m.arrow (a / n.span) (b / n.span)
    arrow_0 = first_code _ _ arrow_second

    arrow_1 : (pairs m n).arrow a b % n.span ≡ n.arrow (a % n.span) (b % n.span)
    arrow_1 = second_code _ _ arrow_second

    below_0 : Below (pairs m n) a b → Below m (a / n.span) (b / n.span)
    below_0 e = sym meet_0 ∙ ap (λ x. x / n.span) e

    below_1 : Below (pairs m n) a b → Below n (a % n.span) (b % n.span)
    below_1 e = sym meet_1 ∙ ap (λ x. x % n.span) e

  pub pairs_lawful : m.span * n.span ≤ 65536 → Lawful (pairs m n)
  pairs_lawful small = record {
    span_low = mul-le 1 1 m.span n.span l.span_low k.span_low;
    span_high = small;
    inside = λ a h. (div-lt_iff_lt-mul k.span_low).0 (l.inside _ (in_first a h));
    bottom_in = in_code _ _ l.bottom_in k.bottom_in;
    top_in = in_code _ _ l.top_in k.top_in;
    meet_in = λ a b ha hb. in_code _ _ (l.meet_in _ _ (in_first a ha) (in_first b hb)) (meet_second a b ha hb);
    join_in = λ a b ha hb. in_code _ _ (l.join_in _ _ (in_first a ha) (in_first b hb)) (join_second a b ha hb);
    arrow_in = λ a b ha hb. in_code _ _ (l.arrow_in _ _ (in_first a ha) (in_first b hb)) (arrow_second a b ha hb);
    meet_comm = λ a b ha hb. same (l.meet_comm _ _ (in_first a ha) (in_first b hb)) (k.meet_comm _ _ (in_second a ha) (in_second b hb));
    meet_assoc = λ a b c ha hb hc. same
        (ap (λ x. m.meet x (c / n.span)) (meet_0 a b ha hb) ∙ l.meet_assoc _ _ _ (in_first a ha) (in_first b hb) (in_first c hc) ∙ sym (ap (m.meet (a / n.span)) (meet_0 b c hb hc)))
        (ap (λ x. n.meet x (c % n.span)) (meet_1 a b ha hb) ∙ k.meet_assoc _ _ _ (in_second a ha) (in_second b hb) (in_second c hc) ∙ sym (ap (n.meet (a % n.span)) (meet_1 b c hb hc)));
    join_comm = λ a b ha hb. same (l.join_comm _ _ (in_first a ha) (in_first b hb)) (k.join_comm _ _ (in_second a ha) (in_second b hb));
    join_assoc = λ a b c ha hb hc. same
        (ap (λ x. m.join x (c / n.span)) (join_0 a b ha hb) ∙ l.join_assoc _ _ _ (in_first a ha) (in_first b hb) (in_first c hc) ∙ sym (ap (m.join (a / n.span)) (join_0 b c hb hc)))
        (ap (λ x. n.join x (c % n.span)) (join_1 a b ha hb) ∙ k.join_assoc _ _ _ (in_second a ha) (in_second b hb) (in_second c hc) ∙ sym (ap (n.join (a % n.span)) (join_1 b c hb hc)));
    meet_absorbs = λ a b ha hb. below_from a ((pairs m n).join a b)
        (ap (m.meet (a / n.span)) (join_0 a b ha hb) ∙ l.meet_absorbs _ _ (in_first a ha) (in_first b hb))
        (ap (n.meet (a % n.span)) (join_1 a b ha hb) ∙ k.meet_absorbs _ _ (in_second a ha) (in_second b hb));
    join_absorbs = λ a b ha hb. same
        (ap (m.join (a / n.span)) (meet_0 a b ha hb) ∙ l.join_absorbs _ _ (in_first a ha) (in_first b hb))
        (ap (n.join (a % n.span)) (meet_1 a b ha hb) ∙ k.join_absorbs _ _ (in_second a ha) (in_second b hb))
        ∙ whole a;
    bottom_least = λ a ha. same
        (ap (λ x. m.meet x (a / n.span)) (first_code m.bottom n.bottom k.bottom_in) ∙ l.bottom_least _ (in_first a ha))
        (ap (λ x. n.meet x (a % n.span)) (second_code m.bottom n.bottom k.bottom_in) ∙ k.bottom_least _ (in_second a ha));
    top_greatest = λ a ha. below_from a (coded n.span m.top n.top)
        (ap (m.meet (a / n.span)) (first_code m.top n.top k.top_in) ∙ l.top_greatest _ (in_first a ha))
        (ap (n.meet (a % n.span)) (second_code m.top n.top k.top_in) ∙ k.top_greatest _ (in_second a ha));
    residual = λ a b c ha hb hc.
        let meet_both = in_code _ _ (l.meet_in _ _ (in_first a ha) (in_first b hb)) (meet_second a b ha hb) in
        let arrow_both = in_code _ _ (l.arrow_in _ _ (in_first b hb) (in_first c hc)) (arrow_second b c hb hc) in (
          λ e. below_from a ((pairs m n).arrow b c)
              (rw (arrow_0 b c hb hc) ((l.residual _ _ _ (in_first a ha) (in_first b hb) (in_first c hc)).0 (rw (meet_0 a b ha hb) at (below_0 ((pairs m n).meet a b) c meet_both hc e))))
              (rw (arrow_1 b c hb hc) ((k.residual _ _ _ (in_second a ha) (in_second b hb) (in_second c hc)).0 (rw (meet_1 a b ha hb) at (below_1 ((pairs m n).meet a b) c meet_both hc e)))),
          λ e. below_from ((pairs m n).meet a b) c
              (rw (meet_0 a b ha hb) ((l.residual _ _ _ (in_first a ha) (in_first b hb) (in_first c hc)).1 (rw (arrow_0 b c hb hc) at (below_0 a ((pairs m n).arrow b c) ha arrow_both e))))
              (rw (meet_1 a b ha hb) ((k.residual _ _ _ (in_second a ha) (in_second b hb) (in_second c hc)).1 (rw (arrow_1 b c hb hc) at (below_1 a ((pairs m n).arrow b c) ha arrow_both e)))),
        );
  }

  pub product_lawful : Lawful (product m n)
  product_lawful = go (leb (m.span * n.span) 65536) refl
    where
      go : (b : Bool) → leb (m.span * n.span) 65536 ≡ b → Lawful (cond b (pairs m n) single)
      go true h = pairs_lawful (leb-true (m.span * n.span) 65536 h)
      go false h = single_lawful
