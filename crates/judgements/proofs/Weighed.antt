-- What weighing answers over the store of a derivation.
use Rattle.std.proofs.Common.{◌≡◌, ℕ, List, Ok, Result, subst}
use Rattle.grammar.specs.Formula.{Formula}
use Rattle.heyting.specs.Meaning.{Meaning}
use Rattle.fitch.specs.Calls.{sequent_checks}
use Rattle.fitch.specs.Checks.{Accepted}
use Rattle.fitch.specs.History.{History}
use Rattle.fitch.specs.declared.mode.Mode.{Mode}
use Rattle.ledger.specs.Sequents.{SequentOf}
use Rattle.ledger.specs.declared.sequent.Sequent.{Sequent}
use Rattle.soundness.specs.Soundness.{Entails}
use Rattle.verdicts.specs.Weighing.{premises_of, conclusion_of, Weighed, Confirms, Follows}
use Rattle.verdicts.specs.declared.refusal.Unweighable.{Unweighable}
use Rattle.verdicts.specs.declared.verdict.Verdict.{Verdict}
use Rattle.judgements.specs.Judging.{SequentWeighed}

module _ {fs stored : List Formula} (m : Meaning) (s : Sequent) (same : stored ≡ fs) where
  pub weighed :
      {mode : Mode} {h : History} (v before after : List ℕ) (r : Result Verdict Unweighable)
      → Accepted (sequent_checks h) × SequentOf mode fs h s → Weighed m stored v s before after r → SequentWeighed mode fs h m v before after r
  weighed v before after r concluded w = (concluded.0, (s, concluded.1, subst (λ x. Weighed m x v s before after r) same w))

  pub confirmed :
      {mode : Mode} (verdict : Verdict)
      → s.mode ≡ mode → Entails s.mode (premises_of fs s) (conclusion_of fs s) → Follows m stored s (Ok verdict) → Confirms mode m verdict
  confirmed verdict is entails follows = subst (λ x. Confirms x m verdict) is (subst (λ x. Follows m x s (Ok verdict)) same follows entails)
