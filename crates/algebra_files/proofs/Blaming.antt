-- A letter that has no member has a value.
use Rattle.std.proofs.Common.{◌≡◌, ℕ, ◌+◌, ◌≤◌, true, false, List, length, get_or, inl, inr, refl, sym, ◌∙◌, subst, arith}
use Rattle.std.proofs.lemmas.Grind.{get_or_default_zero}
use Rattle.answers.specs.declared.unanswered.Unanswered.{Unanswered}
use Rattle.grammar.specs.Formula.{Formula}
use Rattle.heyting.specs.Evaluating.{FirstStranger}
use Rattle.heyting.specs.Meaning.{Meaning, Lawful}
use Rattle.heyting.specs.declared.refusal.Refusal.TheVariants.{WorldsOutOfRange, NoSuchWorld, SpanTooLarge, NotMember, ShortBuffer, LetterNotMember}
use Rattle.ledger.specs.declared.sequent.Sequent.{Sequent}
use Rattle.verdicts.specs.Weighing.{Stored, Unweighed}
use Rattle.verdicts.specs.declared.refusal.Unweighable.{Unweighable}
use Rattle.verdicts.specs.declared.refusal.Unweighable.TheVariants.{NotStored, NotEvaluated}
use Rattle.algebra_files.specs.Blame.{Latest, WhyNot, FaultAt}
use Rattle.algebra_files.specs.Faults.{LetterFault}
use Rattle.algebra_files.specs.Meant.{ElementFor, Elements, Gives, LastFor}
use Rattle.algebra_files.specs.Outcomes.{Stopped}
use Rattle.algebra_files.proofs.Settling.{element_one}

-- the element of a letter with no value is the bottom, which is a member
named : (m : Meaning) → Lawful m → (vs : List (ℕ × ℕ)) (v : List ℕ) (letter k : ℕ) → Elements m.bottom vs v → FirstStranger m v letter → Latest vs (96 + letter) k → LastFor vs (96 + letter) k
named m l vs v letter k elements first (inr last) = last
named m l vs v letter k elements first (inl none) =
    let i = first.index in
    let place : 96 + letter ≡ 97 + i = omega (arith, first.place_is) in
    let bottom : get_or v i 0 ≡ m.bottom =
    element_one m.bottom vs (97 + i) (get_or v i 0) m.bottom (elements.each i (omega (arith, first.within, elements.all))) (ElementFor.none (λ j h. subst (λ a. Gives vs j a → ⊥) place (none j h))) in
    let same : get_or v i m.bottom ≡ m.bottom = get_or_default_zero v i m.bottom first.within ∙ bottom in
    let out : m.member m.bottom ≡ false = subst (λ a. m.member a ≡ false) same first.stranger in
    let inside : m.member m.bottom ≡ true = l.bottom_in in
    cc

module _ (m : Meaning) (l : Lawful m) (fs : List Formula) (vs : List (ℕ × ℕ)) (v : List ℕ) (s : Sequent) (before : List ℕ) (n : ℕ) (elements : Elements m.bottom vs v) where
  abbrev Stops : Unanswered → Type 0
  Stops why = Stopped (λ k. k ≡ m) (LetterFault m vs n) fs s before why

  blamed_letter : (letter : ℕ) (why : Unanswered) → Stored fs s → length fs ≤ length before → FirstStranger m v letter → FaultAt (LetterNotMember letter) vs n why → Stops why
  blamed_letter letter why stored room first told =
      subst Stops (sym told.2)
      (Stopped.faulty _ (LetterNotMember letter) (LetterFault.stranger v letter told.0 elements first (named m l vs v letter told.0 elements first told.1)) (λ a is. (stored, room)))

  pub stopped : (refusal : Unweighable) (why : Unanswered) → Unweighed m fs v s before refusal → WhyNot refusal vs n why → Stops why
  stopped NotStored why h told = subst Stops (sym told) (Stopped.unstored m refl h)
  stopped (NotEvaluated WorldsOutOfRange) why h told = absurd h.1
  stopped (NotEvaluated (NoSuchWorld pair)) why h told = absurd h.1
  stopped (NotEvaluated SpanTooLarge) why h told = absurd h.1
  stopped (NotEvaluated NotMember) why h told = absurd h.1
  stopped (NotEvaluated ShortBuffer) why h told = subst Stops (sym told) (Stopped.short m refl h.0 h.1)
  stopped (NotEvaluated (LetterNotMember letter)) why h told = blamed_letter letter why h.0 h.1.0 h.1.1 told
