-- The line for an input.
use Rattle.std.specs.Prelude.{ℕ, List, IfOk, Result}
use Rattle.grammar.specs.Formula.{Formula}
use Rattle.ledger.specs.declared.line.Line.{Line}
use Rattle.scripts.specs.Proofs.{Entailed}
use Rattle.entries.specs.declared.entry.Entry.{Entry}
use Rattle.verdicts.specs.declared.verdict.Verdict.{Verdict}
use Rattle.answers.specs.declared.checked.Checked.{Checked}
use Rattle.answers.specs.declared.unanswered.Unanswered.{Unanswered}
use Rattle.checking.specs.Unique.{Answers as ChecksOnly}
use Rattle.weighing_files.specs.Unique.{Answers as WeighsOnly}
use Rattle.weighing_files.specs.Weighing.{Confirmed}
use Rattle.answer_lines.specs.Lines.{CheckedPrinted, VerdictPrinted}
use Rattle.answer_lines.specs.declared.unprinted.Unprinted.{Unprinted}

-- the one answer to a proof file s, where what is shown is entailed, and its line printed, or which slice is too short
pub record CheckedLine (capacity : ℕ) (s : List ℕ) (fs gs : List Formula) (entries entries_then : List (Entry ℕ)) (lines lines_then : List Line) (before after : List ℕ) (r : Result ℕ Unprinted) : Type 0 where
  pub answer : Result Checked Unanswered
  pub only : ChecksOnly capacity s fs gs entries entries_then lines lines_then answer
  pub entailed : IfOk answer (Entailed gs)
  pub printed : CheckedPrinted gs answer before after r

-- the one answer to an input s of both files, confirmed in the algebra that is meant, and its line printed, or which slice is too short
pub record WeighedLine (capacity : ℕ) (s : List ℕ) (fs gs : List Formula) (entries entries_then : List (Entry ℕ)) (lines lines_then : List Line) (values values_then before after : List ℕ) (r : Result ℕ Unprinted) : Type 0 where
  pub answer : Result Verdict Unanswered
  pub only : WeighsOnly capacity s fs gs entries entries_then lines lines_then values values_then answer
  pub confirmed : Confirmed capacity s fs answer
  pub printed : VerdictPrinted answer before after r
