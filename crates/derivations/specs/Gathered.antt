-- The histories of a derivation that gathers premises.
use Rattle.std.specs.Prelude.{ℕ, List, length}
use Rattle.fitch.specs.Calls.{premise_checks}
use Rattle.fitch.specs.Checks.{Check}
use Rattle.fitch.specs.History.{History}
use Rattle.fitch.specs.declared.mode.Mode.{Mode}
use Rattle.ledger.specs.Recorded.{Gathers}
use Rattle.derivations.specs.Sheets.{Sheet, formulas_of}
use Rattle.derivations.specs.declared.gathering.Gathering.{Gathering}

abbrev pub mode_of : Gathering → Mode
mode_of g = g.mode

abbrev pub sheet_of : Gathering → Sheet
sheet_of g = record { store = g.store; lines = g.lines; count = g.count; mode = g.mode }

abbrev pub Gathered : Gathering → History → Type 0
Gathered g h = Gathers g.mode (formulas_of (sheet_of g)) g.lines.now g.count h

abbrev pub checks : Gathering → History → ℕ → List Check
checks g h place = premise_checks (formulas_of (sheet_of g)) (length g.lines.now) h place
