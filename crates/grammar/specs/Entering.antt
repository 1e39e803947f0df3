-- What a text must be to be entered.
use Rattle.std.specs.Prelude.{ℕ, ◌+◌, ◌≤◌, List, length}
use Rattle.grammar.specs.Formula.{Formula, joins}
use Rattle.grammar.specs.Contents.{Fitting}
use Rattle.grammar.specs.Scanning.{Stands}

-- a formula's text stands in s at a place, and a store of so many records that holds fs has room for it
pub record Enterable (s : List ℕ) (at : ℕ) (fs : List Formula) (capacity : ℕ) : Type 0 where
  pub formula : Formula
  pub end : ℕ
  pub stands : Stands s at end formula
  pub fitting : Fitting formula
  pub room : length fs + joins formula ≤ capacity
