-- A derivation shows one thing, or has one first fault.
use Rattle.std.proofs.Common.{◌≡◌, ℕ, suc, ◌+◌, ◌<◌, inl, inr, List, [], ◌∷◌, map, length, get_or, take, ◌++◌, take-append-drop, Some, None, Option, Ok, Err, Result, refl, sym, ap, ap₂, ◌∙◌, subst, subst₂, arith}
use Rattle.std.proofs.lemmas.List.{get_or-take, length-take}
use Rattle.grammar.specs.Contents.{formula_at, Once}
use Rattle.grammar.specs.Formula.{Formula}
use Rattle.grammar.proofs.Sameness.{one_place}
use Rattle.fitch.specs.Calls.{sequent_checks}
use Rattle.fitch.specs.Checks.{Refused}
use Rattle.fitch.specs.Exact.{Concludes}
use Rattle.fitch.specs.History.{History, Line, line_at}
use Rattle.fitch.specs.declared.mode.Mode.{Mode}
use Rattle.fitch.proofs.Answering.{one_answers}
use Rattle.ledger.specs.Sequents.{SequentOf, premise_places}
use Rattle.ledger.specs.declared.sequent.Sequent.{Sequent}
use Rattle.entries.proofs.Places.{settled as turns_settled}
use Rattle.entries.specs.Entries.{Said}
use Rattle.entries.specs.InTurn.{InTurn}
use Rattle.entries.specs.declared.turn.Format.TheVariants.{Proof}
use Rattle.entries.specs.declared.turn.Turn.TheVariants.{Start}
use Rattle.answers.specs.declared.checked.Checked.{Checked}
use Rattle.answers.specs.declared.fault.Fault.{Fault}
use Rattle.answers.specs.declared.fault.Fault.TheVariants.{At}
use Rattle.answers.specs.declared.fault.Reason.TheVariants.{Form}
use Rattle.fitch.specs.History.{count}
use Rattle.fitch.specs.Records.{blank}
use Rattle.fitch.specs.declared.rule.Reason.{Reason}
use Rattle.ledger.specs.Recorded.{kept, no_line, Recorded}
use Rattle.ledger.specs.declared.line.Line.{Line as ALine}
use Rattle.scripts.specs.Proofs.{mode_of, Concluded, RecordsShow, RunsAll, LinesOf, RecordsShowOn, DerivesRecords}
use Rattle.scripts.specs.Runs.{Stops}
use Rattle.scripts.specs.Settled.{SameShown, SameAnswer, OneDerivation}
use Rattle.scripts.proofs.Settling.{stops_once, runs_all_once}

abbrev formula_or : Formula → Option Line → Formula
formula_or d None = d
formula_or d (Some l) = l.formula

one_conclusion : {h : History} {A B : Formula} → Concludes h A → Concludes h B → A ≡ B
one_conclusion {h} {A} {B} p q =
    let ends : p.end ≡ q.end = omega (arith, q.latest p.end A p.last, p.latest q.end B q.last) in
    ap (formula_or A) (sym p.last ∙ ap (line_at h) ends ∙ q.last)

abbrev first_or : {X : Type 0} → X → List X → X
first_or d [] = d
first_or d (x ∷ xs) = x

abbrev rest_of : {X : Type 0} → List X → List X
rest_of [] = []
rest_of (x ∷ xs) = xs

one_places : (fs : List Formula) → Once fs → (ps qs : List ℕ) → ((k : ℕ) → k < length ps → get_or ps k 0 < length fs) → ((k : ℕ) → k < length qs → get_or qs k 0 < length fs)
    → map (formula_at fs) ps ≡ map (formula_at fs) qs → ps ≡ qs
one_places fs once [] [] within also e = refl
one_places fs once [] (q ∷ qs) within also e = absurd (cc)
one_places fs once (p ∷ ps) [] within also e = absurd (cc)
one_places fs once (p ∷ ps) (q ∷ qs) within also e =
    ap₂ (λ x xs. x ∷ xs)
    (one_place fs once p q (within 0 (omega arith)) (also 0 (omega arith)) (ap (first_or (formula_at fs p)) e))
    (one_places fs once ps qs (λ k lt. within (suc k) (omega (arith, lt))) (λ k lt. also (suc k) (omega (arith, lt))) (ap rest_of e))

pub within_places : {mode : Mode} {fs : List Formula} {h : History} {s : Sequent} → SequentOf mode fs h s → (k : ℕ) → k < length (premise_places s) → get_or (premise_places s) k 0 < length fs
within_places {fs = fs} {s = s} q k lt =
    let few : k < s.count = omega (arith, lt, length-take s.count s.places) in
    subst (λ p. p < length fs) (sym (get_or-take s.count s.places k 0 few)) (q.premises_in k few)

same_shown : {mode : Mode} {fs : List Formula} {h : History} (n : ℕ) → Once fs → (c d : Checked) → Concluded mode fs h n (Ok c) → Concluded mode fs h n (Ok d) → SameShown c d
same_shown {fs = fs} n once c d p q = record {
  mode = p.1.mode_is ∙ sym q.1.mode_is;
  premises = one_places fs once (premise_places c.sequent) (premise_places d.sequent) (within_places p.1) (within_places q.1) (p.1.premises_are ∙ sym q.1.premises_are);
  conclusion = one_place fs once c.sequent.conclusion d.sequent.conclusion p.1.conclusion_in q.1.conclusion_in (one_conclusion p.1.concludes q.1.concludes);
  lines = p.2 ∙ sym q.2;
}

abbrev fault_or : Fault → Option Fault → Fault
fault_or u None = u
fault_or u (Some v) = v

module _ (fs : List Formula) (slice : ℕ) (xs : List (Said ℕ)) (h k : History) where
  never_both : (u : Fault) → RunsAll fs slice xs h None → RunsAll fs slice xs k (Some u) → ⊥
  never_both u p q = let same = (runs_all_once fs slice xs h k None (Some u) p q).1 in cc

  shown_or_refused : (c : Checked) (u : Fault) → RecordsShow fs slice xs h (Ok c) → RecordsShow fs slice xs k (Err u) → ⊥
  shown_or_refused c u p (inl stopped) = never_both u p.0 stopped
  shown_or_refused c u p (inr late) =
      let same = (runs_all_once fs slice xs h k None None p.0 late.0).0 in
      (one_answers.sequent h).apart late.1.0 p.1.0 (subst (λ j. Refused (sequent_checks j) late.1.0) (sym same) late.1.1)

  same_fault : (u v : Fault) → RecordsShow fs slice xs h (Err u) → RecordsShow fs slice xs k (Err v) → (h ≡ k) × (u ≡ v)
  same_fault u v (inl p) (inl q) = let same = runs_all_once fs slice xs h k (Some u) (Some v) p q in (same.0, ap (fault_or u) same.1)
  same_fault u v (inl p) (inr q) = let same = (runs_all_once fs slice xs h k (Some u) None p q.0).1 in absurd (cc)
  same_fault u v (inr p) (inl q) = absurd (never_both v p.0 q)
  same_fault u v (inr p) (inr q) =
      let same = (runs_all_once fs slice xs h k None None p.0 q.0).0 in
      (same, stops_once (one_answers.sequent h) u v p.1 (subst (λ j. Stops (length xs) (sequent_checks j) v) (sym same) q.1))

derives_once : (fs : List Formula) (slice : ℕ) (xs : List (Said ℕ)) (h k : History) (a b : Result Checked Fault) → Once fs → RecordsShow fs slice xs h a → RecordsShow fs slice xs k b → (h ≡ k) × SameAnswer a b
derives_once fs slice xs h k (Ok c) (Ok d) once p q =
    let same = (runs_all_once fs slice xs h k None None p.0 q.0).0 in
    (same, same_shown (length xs) once c d p.1 (subst (λ j. Concluded (mode_of xs) fs j (length xs) (Ok d)) (sym same) q.1))
derives_once fs slice xs h k (Ok c) (Err v) once p q = absurd (shown_or_refused fs slice xs h k c v p q)
derives_once fs slice xs h k (Err u) (Ok d) once p q = absurd (shown_or_refused fs slice xs k h d u q p)
derives_once fs slice xs h k (Err u) (Err v) once p q = same_fault fs slice xs h k u v p q

abbrev made : ℕ → Reason → ℕ → ℕ → ℕ → ALine
made f r i a e = record { formula = f; reason = r; inside = i; around = a; end = e }

one_line : (fs : List Formula) → Once fs → (x y : ALine) → x.formula < length fs → y.formula < length fs → kept fs x ≡ kept fs y → x ≡ y
one_line fs once x y within also e =
    ap (λ f. made f x.reason x.inside x.around x.end) (one_place fs once x.formula y.formula within also (ap (λ k. k.formula) e))
    ∙ ap (λ r. made y.formula r x.inside x.around x.end) (ap (λ k. k.reason) e)
    ∙ ap (λ i. made y.formula y.reason i x.around x.end) (ap (λ k. k.inside) e)
    ∙ ap (λ a. made y.formula y.reason y.inside a x.end) (ap (λ k. k.around) e)
    ∙ ap (λ n. made y.formula y.reason y.inside y.around n) (ap (λ k. k.end) e)

abbrev AllStored : List Formula → List ALine → Type 0
AllStored fs es = (k : ℕ) → k < length es → (get_or es k no_line).formula < length fs

one_lines : (fs : List Formula) → Once fs → (es ds : List ALine) → AllStored fs es → AllStored fs ds → map (kept fs) es ≡ map (kept fs) ds → es ≡ ds
one_lines fs once [] [] within also e = refl
one_lines fs once [] (d ∷ ds) within also e = absurd (cc)
one_lines fs once (x ∷ es) [] within also e = absurd (cc)
one_lines fs once (x ∷ es) (d ∷ ds) within also e =
    ap₂ (λ y ys. y ∷ ys)
    (one_line fs once x d (within 0 (omega arith)) (also 0 (omega arith)) (ap (first_or blank) e))
    (one_lines fs once es ds (λ k lt. within (suc k) (omega (arith, lt))) (λ k lt. also (suc k) (omega (arith, lt))) (ap rest_of e))

-- the history settles the line records
lines_once : (fs : List Formula) → Once fs → (before a b : List ALine) (h : History) → LinesOf fs before a h → LinesOf fs before b h → a ≡ b
lines_once fs once before a b h p q =
    sym (take-append-drop (count h) a)
    ∙ ap₂ (λ xs ys. xs ++ ys) (one_lines fs once (take (count h) a) (take (count h) b) (first_stored a p.recorded) (first_stored b q.recorded) (p.recorded.lines ∙ sym q.recorded.lines)) (p.rest ∙ sym q.rest)
    ∙ take-append-drop (count h) b
  where
    first_stored : (es : List ALine) → Recorded fs es (count h) h → AllStored fs (take (count h) es)
    first_stored es r k lt =
        let few : k < count h = omega (arith, lt, length-take (count h) es) in
        subst (λ l. l.formula < length fs) (sym (get_or-take (count h) es k no_line few)) (r.stored k few)

module _ (fs : List Formula) (once : Once fs) (xs : List (Said ℕ)) (before a b : List ALine) (r q : Result Checked Fault) where
  pub shown_once : RecordsShowOn fs before a xs r → RecordsShowOn fs before b xs q → SameAnswer r q × (a ≡ b)
  shown_once shown also =
      let one = derives_once fs (length before) xs shown.0 also.0 r q once shown.1 also.1 in
      (one.1, lines_once fs once before a b shown.0 shown.2 (subst (LinesOf fs before b) (sym one.0) also.2))

  answered_once : DerivesRecords fs before a xs r → DerivesRecords fs before b xs q → SameAnswer r q × (a ≡ b)
  answered_once (DerivesRecords.in_turn turns shown) (DerivesRecords.in_turn turns_too also) = shown_once shown also
  answered_once (DerivesRecords.in_turn turns shown) (DerivesRecords.out_of_turn n out refused kept) = absurd (turns_settled.not_both Proof Start xs n turns out)
  answered_once (DerivesRecords.out_of_turn n out refused kept) (DerivesRecords.in_turn turns also) = absurd (turns_settled.not_both Proof Start xs n turns out)
  answered_once (DerivesRecords.out_of_turn n out refused kept) (DerivesRecords.out_of_turn m out_too refused_too kept_too) =
      let same : n ≡ m = turns_settled.one_place Proof Start xs n m out out_too in
      (subst₂ SameAnswer (sym refused) (sym refused_too) (ap (λ k. At (k + 1) (Form 1)) same), kept ∙ sym kept_too)

-- records that come in their turns are answered by what they show
pub shows :
    {fs : List Formula} {before after : List ALine} {xs : List (Said ℕ)} {r : Result Checked Fault}
    → InTurn Proof Start xs → DerivesRecords fs before after xs r → RecordsShowOn fs before after xs r
shows turns (DerivesRecords.in_turn turns_too shown) = shown
shows {xs = xs} turns (DerivesRecords.out_of_turn n out refused kept) = absurd (turns_settled.not_both Proof Start xs n turns out)

pub one_derivation : OneDerivation
one_derivation = record { runs = runs_all_once; answers = derives_once; lines = lines_once; derives = answered_once }
