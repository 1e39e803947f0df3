-- The formulas and the line records of a derivation.
use Rattle.std.specs.Prelude.{◌≡◌, ℕ, ◌<◌, ◌≤◌, List, length, drop, Result, MatchResult}
use Rattle.std.specs.Borrow.{Bor, MutBor}
use Rattle.formulas.specs.Stores.{contents}
use Rattle.formulas.specs.declared.store.Store.{Store}
use Rattle.grammar.specs.Contents.{formula_at}
use Rattle.grammar.specs.Formula.{Formula}
use Rattle.fitch.specs.Checks.{Check}
use Rattle.fitch.specs.Limits.{most_lines}
use Rattle.fitch.specs.declared.mode.Mode.{Mode}
use Rattle.fitch.specs.declared.refusal.Refusal.{Refusal}
use Rattle.ledger.specs.declared.line.Line.{Line}

-- what a derivation is written on: the store and the slice of line records that are lent, how many lines are written, and the mode
pub record Sheet : Type 0 where
  pub store : Bor Store
  pub lines : MutBor (List Line)
  pub count : ℕ
  pub mode : Mode

-- over what is lent, with so many lines
abbrev pub lent_sheet : Bor Store → MutBor (List Line) → Mode → ℕ → Sheet
lent_sheet store lines mode n = record { store = store; lines = lines; count = n; mode = mode }

abbrev pub formulas_of : Sheet → List Formula
formulas_of s = contents s.store.now

abbrev pub formula_of : Sheet → ℕ → Formula
formula_of s place = formula_at (formulas_of s) place

-- a record is left for one more line
abbrev pub HasRoom : Sheet → Type 0
HasRoom s = (s.count < most_lines) × (s.count < length s.lines.now)

-- what a check answers
abbrev pub Checked : Check → Result Unit Refusal → Type 0
Checked c r = MatchResult r (λ _. c.passes) c.fails

-- what no call changes: the store, the mode, which slice is lent and how long it is, and the records past the lines, which are not fewer than before
pub record Leaves (s after : Sheet) : Type 0 where
  pub more : s.count ≤ after.count
  pub store : after.store ≡ s.store
  pub mode : after.mode ≡ s.mode
  pub slice : after.lines.ghost_name ≡ s.lines.ghost_name
  pub long : length after.lines.now ≡ length s.lines.now
  pub rest : drop after.count after.lines.now ≡ drop after.count s.lines.now

-- the same store, line records, number of lines and mode
pub record SameSheet (s after : Sheet) : Type 0 where
  pub store : after.store ≡ s.store
  pub lines : after.lines.now ≡ s.lines.now
  pub count : after.count ≡ s.count
  pub mode : after.mode ≡ s.mode
