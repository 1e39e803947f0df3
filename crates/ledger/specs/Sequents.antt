-- The sequent of a history.
use Rattle.std.specs.Prelude.{◌≡◌, ℕ, ◌<◌, ◌≤◌, List, map, length, take, slice_index}
use Rattle.std.specs.List.{range_with_len, slice_get}
use Rattle.std.specs.Option.{option_map_or}
use Rattle.grammar.specs.Contents.{formula_at}
use Rattle.grammar.specs.Formula.{Formula}
use Rattle.fitch.specs.Exact.{Concludes}
use Rattle.fitch.specs.History.{History, premises}
use Rattle.fitch.specs.Limits.{most_premises}
use Rattle.fitch.specs.declared.mode.Mode.{Mode}
use Rattle.ledger.specs.declared.line.Line.{Line}
use Rattle.ledger.specs.declared.sequent.Sequent.{Sequent}

-- the places of the formulas of lines, and 0 behind them
abbrev pub places_of : List Line → List ℕ
places_of es = map (λ k. option_map_or (λ e. e.formula) (slice_get es k) 0) (range_with_len 0 most_premises)

abbrev pub premise_places : Sequent → List ℕ
premise_places s = take s.count s.places

-- the sequent has the mode, the premises of h, and the formula of its last line at the top level
pub record SequentOf (mode : Mode) (fs : List Formula) (h : History) (s : Sequent) : Type 0 where
  pub mode_is : s.mode ≡ mode
  pub premises_are : map (formula_at fs) (premise_places s) ≡ premises h
  pub premises_in : (k : ℕ) → k < s.count → slice_index s.places k < length fs
  pub spare : (k : ℕ) → s.count ≤ k → slice_index s.places k ≡ 0
  pub conclusion_in : s.conclusion < length fs
  pub concludes : Concludes h (formula_at fs s.conclusion)
