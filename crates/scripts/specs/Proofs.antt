-- What a proof file's records show, read into a store that holds fs.
use Rattle.std.specs.Prelude.{◌≡◌, ℕ, ◌+◌, ◌⊎◌, Bool, true, false, List, [], ◌∷◌, length, drop, Some, None, Option, Ok, Err, Result}
use Rattle.std.specs.List.{before_first, position_or_len}
use Rattle.grammar.specs.Formula.{Formula}
use Rattle.fitch.specs.Calls.{sequent_checks}
use Rattle.fitch.specs.Checks.{Accepted}
use Rattle.fitch.specs.History.{History, begin, count}
use Rattle.fitch.specs.declared.mode.Mode.{Mode}
use Rattle.fitch.specs.declared.mode.Mode.TheVariants.{Constructive}
use Rattle.ledger.specs.Recorded.{Recorded}
use Rattle.ledger.specs.Sequents.{SequentOf}
use Rattle.ledger.specs.declared.line.Line.{Line}
use Rattle.soundness.specs.Soundness.{Entails}
use Rattle.verdicts.specs.Weighing.{premises_of, conclusion_of}
use Rattle.entries.specs.Entries.{Said}
use Rattle.entries.specs.InTurn.{InTurn, OutOfTurn}
use Rattle.entries.specs.declared.turn.Format.TheVariants.{Proof}
use Rattle.entries.specs.declared.turn.Turn.TheVariants.{Start}
use Rattle.answers.specs.declared.checked.Checked.{Checked}
use Rattle.answers.specs.declared.fault.Fault.{Fault}
use Rattle.answers.specs.declared.fault.Fault.TheVariants.{At}
use Rattle.answers.specs.declared.fault.Reason.TheVariants.{Form}
use Rattle.scripts.specs.Runs.{premise_calls, act_calls, Stops, Runs}

-- the records that end the gathering
abbrev pub acts : Said ℕ → Bool
acts (Said.assume p) = true
acts (Said.step p r cs) = true
acts Said.close = true
acts _ = false

abbrev mode_said : Said ℕ → Mode
mode_said (Said.mode m) = m
mode_said _ = Constructive

-- the mode that the first record says; constructive, where it says none
abbrev pub mode_of : List (Said ℕ) → Mode
mode_of [] = Constructive
mode_of (x ∷ xs) = mode_said x

-- the records before the first that ends the gathering, and those from it on
abbrev pub front : List (Said ℕ) → List (Said ℕ)
front xs = before_first acts xs

abbrev pub back : List (Said ℕ) → List (Said ℕ)
back xs = drop (position_or_len acts xs) xs

-- after the premises, which reached h: the others, unless a fault d stopped the premises
abbrev pub GoesOn : List Formula → ℕ → List (Said ℕ) → History → Option Fault → History → Option Fault → Type 0
GoesOn fs slice xs h None k e = Runs (act_calls (mode_of xs) fs slice) (begin ∷ h) (length (front xs) + 1) (back xs) k e
GoesOn fs slice xs h (Some d) k e = (k ≡ h) × (e ≡ Some d)

-- all records, numbered from 1, the premises and then the others: the history that they reach, and the fault that stopped them, if one did
abbrev pub RunsAll : List Formula → ℕ → List (Said ℕ) → History → Option Fault → Type 0
RunsAll fs slice xs k e = (h : History) × (d : Option Fault) × Runs (premise_calls fs slice) [] 1 (front xs) h d × GoesOn fs slice xs h d k e

-- the premises of what is shown entail its conclusion
abbrev pub Entailed : List Formula → Checked → Type 0
Entailed fs c = Entails c.sequent.mode (premises_of fs c.sequent) (conclusion_of fs c.sequent)

-- what a history of so many records shows, or why it shows nothing
abbrev pub Concluded : Mode → List Formula → History → ℕ → Result Checked Fault → Type 0
Concluded mode fs h records (Ok c) = Accepted (sequent_checks h) × SequentOf mode fs h c.sequent × (c.lines ≡ count h)
Concluded mode fs h records (Err fault) = Stops records (sequent_checks h) fault

-- the records reach h, and show this, or have this first fault: of a record, or of the sequent, which is told at the last record
abbrev pub RecordsShow : List Formula → ℕ → List (Said ℕ) → History → Result Checked Fault → Type 0
RecordsShow fs slice xs h (Ok c) = RunsAll fs slice xs h None × Concluded (mode_of xs) fs h (length xs) (Ok c)
RecordsShow fs slice xs h (Err fault) = RunsAll fs slice xs h (Some fault) ⊎ (RunsAll fs slice xs h None × Concluded (mode_of xs) fs h (length xs) (Err fault))

-- the line records after a derivation whose history is h: its lines first, and the others as they were
pub record LinesOf (fs : List Formula) (before after : List Line) (h : History) : Type 0 where
  pub long : length after ≡ length before
  pub recorded : Recorded fs after (count h) h
  pub rest : drop (count h) after ≡ drop (count h) before

-- over a slice of line records, which are those before and then those after: what the records show, or their first fault, and the lines of the history that they reach
abbrev pub RecordsShowOn : List Formula → List Line → List Line → List (Said ℕ) → Result Checked Fault → Type 0
RecordsShowOn fs before after xs r = (h : History) × RecordsShow fs (length before) xs h r × LinesOf fs before after h

-- the answer to records, numbered from 1: what they show, or their first fault, where they come in the turns of a proof file; else the first that is out of turn, and the line records as they were
pub data DerivesRecords (fs : List Formula) (before after : List Line) (xs : List (Said ℕ)) (r : Result Checked Fault) : Type 0 where
  in_turn : InTurn Proof Start xs → RecordsShowOn fs before after xs r → DerivesRecords fs before after xs r
  out_of_turn : (n : ℕ) → OutOfTurn Proof Start xs n → r ≡ Err (At (n + 1) (Form 1)) → after ≡ before → DerivesRecords fs before after xs r
