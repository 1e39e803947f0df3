-- Which histories the records of a derivation tell.
use Rattle.std.specs.Prelude.{◌≡◌, ℕ, ◌<◌, true, false, List, map, length, take, slice_index_or}
use Rattle.grammar.specs.Contents.{formula_at}
use Rattle.grammar.specs.Formula.{Formula}
use Rattle.fitch.specs.History.{History, count, premises, gathering, Written}
use Rattle.fitch.specs.Records.{Kept, Reach, records, table}
use Rattle.fitch.specs.declared.mode.Mode.{Mode}
use Rattle.fitch.specs.declared.rule.Reason.TheVariants.{Premise}
use Rattle.ledger.specs.declared.line.Line.{Line}

abbrev pub no_line : Line
no_line = record { formula = 0; reason = Premise; inside = 0; around = 0; end = 0 }

-- what a record stands for, over the formulas of a store
abbrev pub kept : List Formula → Line → Kept
kept fs e = record { formula = formula_at fs e.formula; reason = e.reason; inside = e.inside; around = e.around; end = e.end }

-- a record with the end of its box
abbrev pub ended_at : Line → ℕ → Line
ended_at e n = record { formula = e.formula; reason = e.reason; inside = e.inside; around = e.around; end = n }

-- the first n records are those of h
pub record Recorded (fs : List Formula) (es : List Line) (n : ℕ) (h : History) : Type 0 where
  pub counted : n ≡ count h
  pub lines : map (kept fs) (take n es) ≡ records h
  pub stored : (k : ℕ) → k < n → (slice_index_or es k no_line).formula < length fs

-- a derivation that gathers premises has the history h
pub record Gathers (mode : Mode) (fs : List Formula) (es : List Line) (n : ℕ) (h : History) : Type 0 where
  pub written : Written mode h
  pub gathers : gathering h ≡ true
  pub recorded : Recorded fs es n h

-- a derivation that is opened, of p premises, has the history h; ts are its open boxes
pub record Derives (mode : Mode) (fs : List Formula) (es : List Line) (n p : ℕ) (ts : List Reach) (h : History) : Type 0 where
  pub written : Written mode h
  pub begun : gathering h ≡ false
  pub recorded : Recorded fs es n h
  pub premised : p ≡ length (premises h)
  pub boxes : ts ≡ table h
