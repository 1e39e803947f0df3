-- What the checking of a proof file answers.
use Rattle.std.specs.Prelude.{◌≡◌, ℕ, List, Some, None, Ok, Err, Result}
use Rattle.grammar.specs.Formula.{Formula}
use Rattle.ledger.specs.declared.line.Line.{Line}
use Rattle.entries.specs.Entries.{Said}
use Rattle.entries.specs.declared.entry.Entry.{Entry}
use Rattle.entries.specs.declared.turn.Format.TheVariants.{Proof}
use Rattle.answers.specs.declared.checked.Checked.{Checked}
use Rattle.answers.specs.declared.fault.Fault.{Fault}
use Rattle.answers.specs.declared.unanswered.Unanswered.{Unanswered}
use Rattle.answers.specs.declared.unanswered.Unanswered.TheVariants.{ShortEntries, Faulty}
use Rattle.readings.specs.Answers.{NoRoom, SaysInto}
use Rattle.scripts.specs.Proofs.{RecordsShowOn}

-- what is shown, or the first fault, as an answer to the input
abbrev pub answered : Result Checked Fault → Result Checked Unanswered
answered (Ok c) = Ok c
answered (Err fault) = Err (Faulty fault)

-- a proof file s, read into a store that held fs and then holds gs, into entries and with line records: what it shows, or its first fault, or that the entries are too few; a fault of a record comes before any of a line or of the sequent
pub data ChecksInput (capacity : ℕ) (s : List ℕ) (fs gs : List Formula) (entries entries_then : List (Entry ℕ)) (lines lines_then : List Line) : Result Checked Unanswered → Type 0 where
  no_room : NoRoom s fs gs entries entries_then → lines_then ≡ lines → ChecksInput capacity s fs gs entries entries_then lines lines_then (Err ShortEntries)
  not_read :
      (xs : List (Said ℕ)) (fault : Fault) → SaysInto capacity Proof s fs gs entries entries_then xs (Some fault) → lines_then ≡ lines
      → ChecksInput capacity s fs gs entries entries_then lines lines_then (Err (Faulty fault))
  read :
      (xs : List (Said ℕ)) (r : Result Checked Fault) → SaysInto capacity Proof s fs gs entries entries_then xs None → RecordsShowOn gs lines lines_then xs r
      → ChecksInput capacity s fs gs entries entries_then lines lines_then (answered r)
