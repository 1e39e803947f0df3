-- An answer where less is meant is one where more is.
use Rattle.std.proofs.Common.{◌≡◌, ℕ, ◌^◌, ◌<◌, List, Some, None, Option, Ok, Err, Result, refl, sym, subst, arith}
use Rattle.answers.specs.declared.fault.Fault.{Fault}
use Rattle.answers.specs.declared.fault.Fault.TheVariants as faults
use Rattle.answers.specs.declared.fault.Reason.TheVariants.{Algebra}
use Rattle.answers.specs.declared.unanswered.Unanswered.{Unanswered}
use Rattle.answers.specs.declared.unanswered.Unanswered.TheVariants.{Faulty}
use Rattle.grammar.specs.Formula.{Formula}
use Rattle.heyting.specs.Layers.{nucleus}
use Rattle.heyting.specs.Meaning.{Meaning, Member}
use Rattle.heyting.specs.declared.refusal.Refusal.{Refusal}
use Rattle.heyting.specs.declared.refusal.Refusal.TheVariants.{NotMember}
use Rattle.ledger.specs.declared.sequent.Sequent.{Sequent}
use Rattle.verdicts.specs.declared.verdict.Verdict.{Verdict}
use Rattle.algebra_files.specs.Faults.{record_at, values_record, LetterFault, LayerFault}
use Rattle.algebra_files.specs.Meant.{Layered}
use Rattle.algebra_files.specs.Outcomes.{Stopped, Outcome}

module _ (M N : Meaning → Type 0) (F G : ℕ → Refusal → Type 0) (meant : (m : Meaning) → M m → N m) (blamed : (n : ℕ) (refusal : Refusal) → F n refusal → G n refusal) where
  stopped : (fs : List Formula) (s : Sequent) (buffer : List ℕ) (why : Unanswered) → Stopped M F fs s buffer why → Stopped N G fs s buffer why
  stopped fs s buffer why (Stopped.unstored m is out) = Stopped.unstored m (meant m is) out
  stopped fs s buffer why (Stopped.short m is stored short) = Stopped.short m (meant m is) stored short
  stopped fs s buffer why (Stopped.faulty n refusal fault reached) = Stopped.faulty n refusal (blamed n refusal fault) reached

  pub widened :
      (fs : List Formula) (vs : List (ℕ × ℕ)) (s : Sequent) (before after : List ℕ) (r : Result Verdict Unanswered)
      → Outcome M F fs vs s before after r → Outcome N G fs vs s before after r
  widened fs vs s before after (Ok verdict) h =
      record { algebra = h.algebra; meant = meant h.algebra h.meant; letters = h.letters; elements = h.elements; weighed = h.weighed; follows = h.follows }
  widened fs vs s before after (Err why) h = (stopped fs s before why h.0, h.1)

module _ (below : Meaning) (fs : List Formula) (vs : List (ℕ × ℕ)) (s : Sequent) (n : ℕ) (before after : List ℕ) (r : Result Verdict Unanswered) where
  abbrev pub OverLayer : Option ℕ → Type 0
  OverLayer layer = Outcome (Layered below layer) (LayerFault below layer vs n) fs vs s before after r

  pub no_layer : (layer : Option ℕ) → layer ≡ None → n < 2 ^ 64 → Outcome (λ m. m ≡ below) (LetterFault below vs n) fs vs s before after r → OverLayer layer
  no_layer layer is fits h =
      let here : n ≡ values_record n None = omega arith in
      subst OverLayer (sym is)
      (widened (λ m. m ≡ below) (Layered below None) (LetterFault below vs n) (LayerFault below None vs n) (λ m e. e)
      (λ k refusal fault. LayerFault.letter below k refusal refl (subst (λ i. LetterFault below vs i k refusal) here fault)) fs vs s before after r h)

  made_layer :
      (layer : Option ℕ) (e : ℕ) → layer ≡ Some e → Member below e
      → Outcome (λ m. m ≡ nucleus below e) (LetterFault (nucleus below e) vs (record_at n 1)) fs vs s before after r → OverLayer layer
  made_layer layer e is member h =
      subst OverLayer (sym is)
      (widened (λ m. m ≡ nucleus below e) (Layered below (Some e)) (LetterFault (nucleus below e) vs (record_at n 1)) (LayerFault below (Some e) vs n) (λ m same. (member, same))
      (λ k refusal fault. LayerFault.letter (nucleus below e) k refusal (member, refl) fault) fs vs s before after r h)

  pub one_layer :
      (layer : Option ℕ) (e : ℕ) (above : Meaning) (i : ℕ) → layer ≡ Some e → Member below e → above ≡ nucleus below e → i ≡ record_at n 1
      → Outcome (λ m. m ≡ above) (LetterFault above vs i) fs vs s before after r → OverLayer layer
  one_layer layer e above i is member same next h =
      made_layer layer e is member
      (subst (λ k. Outcome (λ m. m ≡ k) (LetterFault k vs (record_at n 1)) fs vs s before after r) same
      (subst (λ j. Outcome (λ m. m ≡ above) (LetterFault above vs j) fs vs s before after r) next h))

  pub no_member : (layer : Option ℕ) (e : ℕ) (fault : Fault) → layer ≡ Some e → (Member below e → ⊥) → fault ≡ faults.At n (Algebra NotMember) → Stopped (Layered below layer) (LayerFault below layer vs n) fs s before (Faulty fault)
  no_member layer e fault is out told =
      subst (λ x. Stopped (Layered below layer) (LayerFault below layer vs n) fs s before (Faulty x)) (sym told) (Stopped.faulty n NotMember (LayerFault.stranger e is out) (λ letter other. cc))
