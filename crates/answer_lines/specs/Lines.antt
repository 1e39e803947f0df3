-- The line for an answer, put to the front of a buffer.
use Rattle.std.specs.Prelude.{◌≡◌, ℕ, ◌<◌, ◌≤◌, List, length, Ok, Err, Result}
use Rattle.grammar.specs.Formula.{Formula}
use Rattle.grammar.specs.Writing.{put}
use Rattle.verdicts.specs.Weighing.{Stored}
use Rattle.verdicts.specs.declared.verdict.Verdict.{Verdict}
use Rattle.answers.specs.Rows.{checked_row, verdict_row, fault_row}
use Rattle.answers.specs.declared.checked.Checked.{Checked}
use Rattle.answers.specs.declared.unanswered.Unanswered.{Unanswered}
use Rattle.answers.specs.declared.unanswered.Unanswered.TheVariants as answers
use Rattle.answer_lines.specs.declared.unprinted.Unprinted.{Unprinted}
use Rattle.answer_lines.specs.declared.unprinted.Unprinted.TheVariants.{ShortEntries, ShortValues, ShortBuffer}

-- the buffer as it was and as it is, and what is answered: the line's length, or that the buffer is too short for it and stays
abbrev pub LinePrinted : List ℕ → List ℕ → List ℕ → Result ℕ Unprinted → Type 0
LinePrinted line before after (Ok n) = (n ≡ length line) × (n ≤ length before) × (after ≡ put before 0 line)
LinePrinted line before after (Err ShortBuffer) = (length before < length line) × (after ≡ before)
LinePrinted line before after (Err _) = ⊥

-- there is no line where a slice is too short for an answer
abbrev pub NoLine : Unprinted → List ℕ → List ℕ → Result ℕ Unprinted → Type 0
NoLine why before after r = (r ≡ Err why) × (after ≡ before)

abbrev pub UnansweredPrinted : Unanswered → List ℕ → List ℕ → Result ℕ Unprinted → Type 0
UnansweredPrinted (answers.Faulty fault) before after r = LinePrinted (fault_row fault) before after r
UnansweredPrinted answers.ShortEntries before after r = NoLine ShortEntries before after r
UnansweredPrinted answers.ShortValues before after r = NoLine ShortValues before after r
UnansweredPrinted answers.NotStored before after r = ⊥

-- the line for what a proof file shows, over the formulas of the store, or for why it shows nothing
abbrev pub CheckedPrinted : List Formula → Result Checked Unanswered → List ℕ → List ℕ → Result ℕ Unprinted → Type 0
CheckedPrinted fs (Ok c) before after r = LinePrinted (checked_row fs c) before after r
CheckedPrinted fs (Err why) before after r = UnansweredPrinted why before after r

-- the line for a verdict, or for why there is none
abbrev pub VerdictPrinted : Result Verdict Unanswered → List ℕ → List ℕ → Result ℕ Unprinted → Type 0
VerdictPrinted (Ok verdict) before after r = LinePrinted (verdict_row verdict) before after r
VerdictPrinted (Err why) before after r = UnansweredPrinted why before after r

-- a reason for which something is told: any but a place that is not stored
abbrev pub CanBeTold : Unanswered → Type 0
CanBeTold answers.NotStored = ⊥
CanBeTold _ = Unit {0}

abbrev pub CheckedCanBeTold : List Formula → Result Checked Unanswered → Type 0
CheckedCanBeTold fs (Ok c) = Stored fs c.sequent
CheckedCanBeTold fs (Err why) = CanBeTold why

abbrev pub VerdictCanBeTold : Result Verdict Unanswered → Type 0
VerdictCanBeTold (Ok verdict) = Unit {0}
VerdictCanBeTold (Err why) = CanBeTold why
