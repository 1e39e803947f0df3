-- An input has one answer.
use Rattle.std.specs.Prelude.{◌≡◌, ℕ, List, map, Err, Result}
use Rattle.grammar.specs.Contents.{Once}
use Rattle.grammar.specs.Formula.{Formula}
use Rattle.ledger.specs.declared.line.Line.{Line}
use Rattle.entries.specs.Entries.{stored}
use Rattle.entries.specs.declared.entry.Entry.{Entry}
use Rattle.answers.specs.declared.unanswered.Unanswered.{Unanswered}
use Rattle.answers.specs.declared.unanswered.Unanswered.TheVariants.{NotStored}
use Rattle.verdicts.specs.declared.verdict.Verdict.{Verdict}
use Rattle.weighing_files.specs.Weighing.{WeighsInput}

-- every answer to the input s is r, and leaves a store that holds gs, these values, entries that say the same, and the same line records
abbrev pub Only : ℕ → List ℕ → List Formula → List Formula → List (Entry ℕ) → List (Entry ℕ) → List Line → List Line → List ℕ → List ℕ → Result Verdict Unanswered → Type 0
Only capacity s fs gs entries entries_then lines lines_then values values_then r =
    (hs : List Formula) (entries_too : List (Entry ℕ)) (lines_too : List Line) (values_too : List ℕ) (q : Result Verdict Unanswered)
    → WeighsInput capacity s fs hs entries entries_too lines lines_too values values_too q
    → (r ≡ q) × (gs ≡ hs) × (values_then ≡ values_too) × (map stored entries_then ≡ map stored entries_too) × (lines_then ≡ lines_too)

-- into a store that holds each formula once
abbrev pub OneAnswer : Type 0
OneAnswer =
    (capacity : ℕ) (s : List ℕ) (fs gs : List Formula) (entries entries_then : List (Entry ℕ)) (lines lines_then : List Line) (values values_then : List ℕ) (r : Result Verdict Unanswered)
    → Once fs → WeighsInput capacity s fs gs entries entries_then lines lines_then values values_then r
    → Only capacity s fs gs entries entries_then lines lines_then values values_then r

-- the one answer r to the input s; what a proof file shows stands at places of the store
pub record Answers (capacity : ℕ) (s : List ℕ) (fs gs : List Formula) (entries entries_then : List (Entry ℕ)) (lines lines_then : List Line) (values values_then : List ℕ) (r : Result Verdict Unanswered) : Type 0 where
  pub weighs : WeighsInput capacity s fs gs entries entries_then lines lines_then values values_then r
  pub only : Only capacity s fs gs entries entries_then lines lines_then values values_then r
  pub stored : r ≡ Err NotStored → ⊥
