-- The histories of a derivation under way.
use Rattle.std.specs.Prelude.{◌≡◌, ℕ, List, length}
use Rattle.fitch.specs.Calls.{assume_checks, step_checks}
use Rattle.fitch.specs.Checks.{Check}
use Rattle.fitch.specs.History.{History}
use Rattle.fitch.specs.declared.mode.Mode.{Mode}
use Rattle.fitch.specs.declared.rule.Rule.{Rule}
use Rattle.ledger.specs.Recorded.{Derives}
use Rattle.boxes.specs.Stack.{stack}
use Rattle.derivations.specs.Sheets.{Sheet, formulas_of}
use Rattle.derivations.specs.Sheets.{Leaves as SheetLeaves}
use Rattle.derivations.specs.declared.open.Open.{Open}

abbrev pub mode_in : Open → Mode
mode_in o = o.mode

abbrev pub sheet_in : Open → Sheet
sheet_in o = record { store = o.store; lines = o.lines; count = o.count; mode = o.mode }

abbrev pub Derived : Open → History → Type 0
Derived o h = Derives o.mode (formulas_of (sheet_in o)) o.lines.now o.count o.premises (stack o.boxes) h

abbrev pub checks_of_assume : Open → History → ℕ → List Check
checks_of_assume o h place = assume_checks (formulas_of (sheet_in o)) (length o.lines.now) h place

abbrev pub checks_of_step : Open → History → ℕ → Rule → List ℕ → List Check
checks_of_step o h place r is = step_checks o.mode (formulas_of (sheet_in o)) (length o.lines.now) h place r is

-- what no call changes: the number of premises, and of the sheet the store, the mode, and the records past the lines
pub record Leaves (o after : Open) : Type 0 where
  pub premises : after.premises ≡ o.premises
  pub sheet : SheetLeaves (sheet_in o) (sheet_in after)
