-- What the author whose records are a proof file's does with a derivation.
use Rattle.std.specs.Prelude.{ℕ, ◌+◌, List, length, IfOk, Result}
use Rattle.fitch.specs.History.{History}
use Rattle.derivations.specs.Derived.{Derived}
use Rattle.derivations.specs.Finished.{mode_by, Finished, formulas_by}
use Rattle.derivations.specs.Gathered.{Gathered}
use Rattle.derivations.specs.declared.gathering.Gathering.{Gathering}
use Rattle.derivations.specs.declared.open.Open.{Open}
use Rattle.derivations.specs.declared.sealed.Sealed.{Sealed}
use Rattle.entries.specs.Entries.{Said}
use Rattle.answers.specs.declared.checked.Checked.{Checked}
use Rattle.answers.specs.declared.fault.Fault.{Fault}
use Rattle.scripts.specs.Proofs.{front, back, Entailed, Concluded}
use Rattle.scripts.specs.Runs.{gathering_calls, open_calls, Ran}

-- it runs the records that come before the first that ends the gathering
abbrev pub GathersBy : List (Said ℕ) → Gathering → Result Unit Fault → Gathering → Type 0
GathersBy xs g r after = (h : History) → Gathered g h → Ran (gathering_calls g) (Gathered after) h 1 (front xs) r

-- and then those from it on
abbrev pub WritesBy : List (Said ℕ) → Open → Result Unit Fault → Open → Type 0
WritesBy xs o r after = (h : History) → Derived o h → Ran (open_calls o) (Derived after) h (length (front xs) + 1) (back xs) r

-- it tells what the derivation shows, with a fault of the sequent at the last record
abbrev pub TellsBy : List (Said ℕ) → Sealed → Result Checked Fault → Type 0
TellsBy xs d r = ((h : History) → Finished d h → Concluded (mode_by d) (formulas_by d) h (length xs) r) × IfOk r (Entailed (formulas_by d))
