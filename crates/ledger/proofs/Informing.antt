-- What a record tells of its line, and the premises of a derivation.
use Rattle.std.proofs.Common.{◌≡◌, ℕ, zero, suc, ◌-◌, ◌<◌, ◌≤◌, List, [], ◌∷◌, map, length, get_or, take, replicate, Some, None, Ok, Err, Option, Result, MatchOption, sym, refl, ap, ap₂, ◌∙◌, subst, inl, arith}
use mathlib.Core.List.{map-map}
use Rattle.std.proofs.lemmas.List.{get_or-map, get_or-replicate, get_or_past, get_or-take, length-map, length-take-le, take-map, take-take}
use Rattle.std.proofs.lemmas.Option.{slice_get-get_or}
use Rattle.std.specs.List.{slice_get}
use Rattle.std.specs.Option.{option_map_or}
use Rattle.std.proofs.lemmas.List.FromFn.{get_or-map-range_with_len, length-map-range_with_len, take-map-range_with_len, fill_by_all}
use native.Mathlib.Decide.{dec_lt}
use Rattle.grammar.specs.Contents.{formula_at}
use Rattle.grammar.specs.Formula.{Formula}
use Rattle.grammar.specs.Formula.Formula.{falsum}
use Rattle.fitch.specs.Exact.{Concludes}
use Rattle.fitch.specs.History.{History, lines, premises}
use Rattle.fitch.specs.History.{Line as HistoryLine}
use Rattle.fitch.specs.Records.{Reach, blank, records, reasons}
use Rattle.fitch.specs.declared.mode.Mode.{Mode}
use Rattle.fitch.specs.declared.refusal.Refusal.{Refusal}
use Rattle.fitch.specs.declared.refusal.Refusal.TheVariants.{NoSuchLine}
use Rattle.fitch.specs.declared.rule.Reason.TheVariants.{Premise}
use Rattle.fitch.proofs.Keeping.{agrees, count_records}
use Rattle.fitch.proofs.Nesting.{count_lines}
use Rattle.fitch.proofs.Reasons.{record_reasons, formulas_of, few_premises, premises_first}
use Rattle.ledger.specs.Recorded.{no_line, kept, Recorded, Derives}
use Rattle.ledger.specs.Sequents.{SequentOf, places_of}
use Rattle.ledger.specs.Telling.{record_of, Tells, info, LineTold}
use Rattle.ledger.specs.declared.line.Line.{Line}
use Rattle.ledger.specs.declared.line.LineInfo.{LineInfo}
use Rattle.ledger.specs.declared.sequent.Sequent.{Sequent}
use Rattle.ledger.proofs.Recording.{is_line, kept_entry, stored_at, lacks_line}

module _ {fs : List Formula} {es : List Line} {h : History} (g : Recorded fs es (length es) h) where
  pub tells : (i : ℕ) (e : Line) → record_of es i ≡ Some e → Tells fs h i (info e)
  tells zero e is = absurd (cc)
  tells (suc k) e is =
      let within = is_line es (suc k) e is in
      let d : HistoryLine = record { formula = falsum; inside = [] } in
      let l = get_or (lines h) k d in
      let p : slice_get (lines h) k ≡ Some l = slice_get-get_or (lines h) k d (omega (arith, count_lines h, g.counted, within.1)) in
      let r = get_or (records h) k blank in
      let lt : k < length (records h) = omega (arith, count_records h, g.counted, within.1) in
      let q : slice_get (records h) k ≡ Some r = slice_get-get_or (records h) k blank lt in
      let a = agrees h k l r p q in
      let same : k ≡ suc k - 1 = omega arith in
      let kept_as : r ≡ kept fs e = ap (λ i. get_or (records h) i blank) same ∙ kept_entry g (suc k) e is in
      let few : suc k - 1 < length (reasons h) = omega (arith, ap length (record_reasons h), length-map (records h) (λ k. k.reason)) in
      record {
        line = l;
        stands = p;
        stored = stored_at g (suc k) e is;
        formula = sym (ap (λ k. k.formula) kept_as) ∙ a.formula;
        reason =
            slice_get-get_or (reasons h) (suc k - 1) Premise few
            ∙ ap Some (ap (λ xs. get_or xs (suc k - 1) Premise) (sym (record_reasons h)) ∙ get_or-map (λ k. k.reason) (records h) (suc k - 1) blank Premise (omega arith) ∙ ap (λ i. (get_or (records h) i blank).reason) (sym same) ∙ ap (λ k. k.reason) kept_as);
        inside = sym (ap (λ k. k.inside) kept_as) ∙ a.inside;
      }

  -- what asking for a line answers is what its record tells
  pub line_told : (i : ℕ) (r : Result LineInfo Refusal) → MatchOption (record_of es i) (r ≡ Err (NoSuchLine 0)) (λ e. r ≡ Ok (info e)) → LineTold fs h i r
  line_told i r = at (record_of es i) refl
    where
      at : (o : Option Line) → record_of es i ≡ o → MatchOption o (r ≡ Err (NoSuchLine 0)) (λ e. r ≡ Ok (info e)) → LineTold fs h i r
      at None is told = subst (LineTold fs h i) (sym told) (inl (refl, λ s. (let some = s.1 in let none = lacks_line g i is in cc)))
      at (Some e) is told = let t = tells i e is in subst (LineTold fs h i) (sym told) (((t.line, t.stands), tt), t)

-- the places of the formulas of lines
at_place : (es : List Line) (k : ℕ) → option_map_or (λ e. e.formula) (slice_get es k) 0 ≡ get_or (map (λ e. e.formula) es) k 0
at_place [] k = refl
at_place (e ∷ es) zero = refl
at_place (e ∷ es) (suc k) = at_place es k

place_at : (es : List Line) (k : ℕ) → k < 32 → get_or (places_of es) k 0 ≡ get_or (map (λ e. e.formula) es) k 0
place_at es k lt = get_or-map-range_with_len (λ i. option_map_or (λ e. e.formula) (slice_get es i) 0) 0 32 k k 0 lt (omega arith) ∙ at_place es k

place_past : (es : List Line) (k : ℕ) → length es ≤ k → get_or (places_of es) k 0 ≡ 0
place_past es k past = at (dec_lt k 32)
  where
    at : Dec (k < 32) → get_or (places_of es) k 0 ≡ 0
    at (yes lt) = place_at es k lt ∙ get_or_past (map (λ e. e.formula) es) k 0 (omega (arith, length-map es (λ e. e.formula)))
    at (no ge) = get_or_past (places_of es) k 0 (omega (arith, length-map-range_with_len (λ i. option_map_or (λ e. e.formula) (slice_get es i) 0) 0 32))

places_first : (es : List Line) (n : ℕ) → length es ≡ n → n ≤ 32 → take n (places_of es) ≡ map (λ e. e.formula) es
places_first es n long few =
    let f : ℕ → ℕ = λ i. option_map_or (λ e. e.formula) (slice_get es i) 0 in
    take-map-range_with_len f 0 32 n few
    ∙ sym (fill_by_all f (map (λ e. e.formula) es) n 0 (length-map es (λ e. e.formula) ∙ long) (λ k lt. sym (at_place es k)))

-- places filled in order
pub no_places : (z k : ℕ) → get_or (replicate 32 z) k z ≡ z
no_places z k = at (dec_lt k 32)
  where
    at : Dec (k < 32) → get_or (replicate 32 z) k z ≡ z
    at (yes lt) = get_or-replicate 32 k z z lt
    at (no ge) = get_or_past (replicate 32 z) k z (omega arith)

pub all_places : (es : List Line) (places : List ℕ) → length places ≡ 32 → ((k : ℕ) → k < length es → get_or places k 0 ≡ (get_or es k no_line).formula)
    → ((k : ℕ) → length es ≤ k → get_or places k 0 ≡ 0) → places ≡ places_of es
all_places es places long filled spare = fill_by_all (λ k. option_map_or (λ e. e.formula) (slice_get es k) 0) places 32 0 long (λ k lt. at k (dec_lt k (length es)))
  where
    at : (k : ℕ) → Dec (k < length es) → get_or places k 0 ≡ option_map_or (λ e. e.formula) (slice_get es k) 0
    at k (yes lt) = filled k lt ∙ sym (at_place es k ∙ get_or-map (λ e. e.formula) es k no_line 0 lt)
    at k (no ge) = spare k (omega arith) ∙ sym (at_place es k ∙ get_or_past (map (λ e. e.formula) es) k 0 (omega (arith, length-map es (λ e. e.formula))))

-- the premises are the formulas of the first lines
module _ {mode : Mode} {fs : List Formula} {es : List Line} {n p : ℕ} {ts : List Reach} {h : History} (fits : n ≤ length es) (g : Derives mode fs es n p ts h) where
  pub premises_within : p ≤ n
  premises_within = omega (arith, g.premised, few_premises h, g.recorded.counted)

  pub premises_told : map (formula_at fs) (map (λ e. e.formula) (take p es)) ≡ premises h
  premises_told =
      map-map (formula_at fs) (λ e. e.formula) (take p es)
      ∙ sym (map-map (λ k. k.formula) (kept fs) (take p es))
      ∙ ap (λ xs. map (λ k. k.formula) (map (kept fs) xs)) (sym (take-take p n es premises_within))
      ∙ ap (map (λ k. k.formula)) (sym (take-map (kept fs) p (take n es)) ∙ ap (take p) g.recorded.lines)
      ∙ sym (take-map (λ k. k.formula) p (records h))
      ∙ ap (λ m. take m (formulas_of h)) g.premised
      ∙ premises_first mode h g.written

  -- the sequent of these premises and a conclusion
  pub sequent_of : (s : Sequent) → s.mode ≡ mode → s.count ≡ p → s.places ≡ places_of (take p es) → s.conclusion < length fs → Concludes h (formula_at fs s.conclusion) → SequentOf mode fs h s
  sequent_of s mode_is counted places held concludes =
      let few : p ≤ 32 = omega (arith, counted, s.few) in
      let first : take s.count s.places ≡ map (λ e. e.formula) (take p es) = ap₂ take counted places ∙ places_first (take p es) p (length-take-le p es long) few in
      record {
        mode_is = mode_is;
        premises_are = ap (map (formula_at fs)) first ∙ premises_told;
        premises_in = λ k lt.
            let within : k < p = omega (arith, counted) in
            let at : get_or s.places k 0 ≡ (get_or es k no_line).formula =
            ap (λ xs. get_or xs k 0) places ∙ place_at (take p es) k (omega arith) ∙ get_or-map (λ e. e.formula) (take p es) k no_line 0 (omega (arith, length-take-le p es long))
            ∙ ap (λ e. e.formula) (get_or-take p es k no_line within) in
            subst (λ f. f < length fs) (sym at) (g.recorded.stored k (omega (arith, premises_within)));
        spare = λ k le. ap (λ xs. get_or xs k 0) places ∙ place_past (take p es) k (omega (arith, counted, length-take-le p es long));
        conclusion_in = held;
        concludes = concludes;
      }
    where
      long : p ≤ length es
      long = omega (arith, premises_within)
