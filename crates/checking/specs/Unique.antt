-- A proof file has one answer.
use Rattle.entries.specs.Entries.{stored}
use Rattle.std.specs.Prelude.{◌≡◌, ℕ, List, map, Ok, Err, Result}
use Rattle.grammar.specs.Contents.{Once}
use Rattle.grammar.specs.Formula.{Formula}
use Rattle.ledger.specs.declared.line.Line.{Line}
use Rattle.entries.specs.declared.entry.Entry.{Entry}
use Rattle.answers.specs.declared.checked.Checked.{Checked}
use Rattle.answers.specs.declared.unanswered.Unanswered.{Unanswered}
use Rattle.scripts.specs.Settled.{SameShown}
use Rattle.checking.specs.Checking.{ChecksInput}

-- the same in all that is told
abbrev pub SameChecking : Result Checked Unanswered → Result Checked Unanswered → Type 0
SameChecking (Ok c) (Ok d) = SameShown c d
SameChecking (Err a) (Err b) = a ≡ b
SameChecking _ _ = ⊥

-- every answer to the proof file s tells what a tells, and leaves a store that holds gs, entries that say the same, and the same line records
abbrev pub Only : ℕ → List ℕ → List Formula → List Formula → List (Entry ℕ) → List (Entry ℕ) → List Line → List Line → Result Checked Unanswered → Type 0
Only capacity s fs gs entries entries_then lines lines_then a =
    (hs : List Formula) (entries_too : List (Entry ℕ)) (lines_too : List Line) (b : Result Checked Unanswered)
    → ChecksInput capacity s fs hs entries entries_too lines lines_too b → SameChecking a b × (gs ≡ hs) × (map stored entries_then ≡ map stored entries_too) × (lines_then ≡ lines_too)

-- into a store that holds each formula once
abbrev pub OneAnswer : Type 0
OneAnswer =
    (capacity : ℕ) (s : List ℕ) (fs gs : List Formula) (entries entries_then : List (Entry ℕ)) (lines lines_then : List Line) (a : Result Checked Unanswered)
    → Once fs → ChecksInput capacity s fs gs entries entries_then lines lines_then a → Only capacity s fs gs entries entries_then lines lines_then a

-- the one answer a to the proof file s
pub record Answers (capacity : ℕ) (s : List ℕ) (fs gs : List Formula) (entries entries_then : List (Entry ℕ)) (lines lines_then : List Line) (a : Result Checked Unanswered) : Type 0 where
  pub checks : ChecksInput capacity s fs gs entries entries_then lines lines_then a
  pub only : Only capacity s fs gs entries entries_then lines lines_then a
