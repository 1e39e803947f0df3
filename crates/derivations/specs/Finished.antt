-- The histories of a finished derivation.
use Rattle.std.specs.Prelude.{◌≡◌, ℕ, List, Some}
use Rattle.grammar.specs.Contents.{formula_at}
use Rattle.grammar.specs.Formula.{Formula}
use Rattle.fitch.specs.History.{History, Line, line_at, in_force}
use Rattle.fitch.specs.declared.mode.Mode.{Mode}
use Rattle.ledger.specs.Recorded.{Derives}
use Rattle.ledger.specs.declared.line.LineInfo.{LineInfo}
use Rattle.boxes.specs.Stack.{stack}
use Rattle.soundness.specs.Soundness.{Entails}
use Rattle.derivations.specs.Sheets.{Sheet, formulas_of}
use Rattle.derivations.specs.declared.sealed.Sealed.{Sealed}

abbrev pub mode_by : Sealed → Mode
mode_by d = d.mode

abbrev pub sheet_by : Sealed → Sheet
sheet_by d = record { store = d.store; lines = d.lines; count = d.count; mode = d.mode }

abbrev pub formulas_by : Sealed → List Formula
formulas_by d = formulas_of (sheet_by d)

abbrev pub Finished : Sealed → History → Type 0
Finished d h = Derives d.mode (formulas_by d) d.lines.now d.count d.premises (stack d.boxes) h

-- the formulas in force at line i of h entail the formula that is told of it
pub record LineEntailed (d : Sealed) (h : History) (i : ℕ) (told : LineInfo) : Type 0 where
  pub line : Line
  pub stands : line_at h i ≡ Some line
  pub entails : Entails d.mode (in_force h line) (formula_at (formulas_by d) told.formula)
