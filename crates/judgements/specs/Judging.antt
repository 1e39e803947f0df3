-- The verdict on a derivation.
use Rattle.std.specs.Prelude.{◌≡◌, ℕ, List, Ok, Err, Result}
use Rattle.grammar.specs.Formula.{Formula}
use Rattle.heyting.specs.Meaning.{Meaning}
use Rattle.fitch.specs.Calls.{sequent_checks}
use Rattle.fitch.specs.Checks.{Accepted, Refused}
use Rattle.fitch.specs.History.{History}
use Rattle.fitch.specs.declared.mode.Mode.{Mode}
use Rattle.ledger.specs.Sequents.{SequentOf}
use Rattle.ledger.specs.declared.sequent.Sequent.{Sequent}
use Rattle.verdicts.specs.Weighing.{Weighed}
use Rattle.verdicts.specs.declared.refusal.Unweighable.{Unweighable}
use Rattle.verdicts.specs.declared.verdict.Verdict.{Verdict}
use Rattle.judgements.specs.declared.refusal.Unjudged.{Unjudged}
use Rattle.judgements.specs.declared.refusal.Unjudged.TheVariants.{NotConcluded, NotWeighed}

-- the sequent of h is weighed, with this answer
abbrev pub SequentWeighed : Mode → List Formula → History → Meaning → List ℕ → List ℕ → List ℕ → Result Verdict Unweighable → Type 0
SequentWeighed mode fs h m v before after r = Accepted (sequent_checks h) × ((s : Sequent) × SequentOf mode fs h s × Weighed m fs v s before after r)

-- the buffer as it was and as it is, and the answer: no sequent and a buffer as it was, or what weighing the sequent answers
abbrev pub Judged : Mode → List Formula → History → Meaning → List ℕ → List ℕ → List ℕ → Result Verdict Unjudged → Type 0
Judged mode fs h m v before after (Err (NotConcluded refusal)) = Refused (sequent_checks h) refusal × (after ≡ before)
Judged mode fs h m v before after (Err (NotWeighed refusal)) = SequentWeighed mode fs h m v before after (Err refusal)
Judged mode fs h m v before after (Ok verdict) = SequentWeighed mode fs h m v before after (Ok verdict)
