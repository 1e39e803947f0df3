-- What is told of a line, and of the last line at the top level.
use Rattle.std.specs.Prelude.{◌≡◌, ℕ, zero, suc, ◌-◌, ◌<◌, ◌≤◌, List, length, Some, None, Option, Result, MatchOption, MatchResult, ◌≢◌, slice_index_or}
use Rattle.std.specs.List.{slice_get}
use Rattle.grammar.specs.Contents.{formula_at}
use Rattle.grammar.specs.Formula.{Formula}
use Rattle.fitch.specs.Calls.{line_checks}
use Rattle.fitch.specs.Checks.{Accepted, Refused}
use Rattle.fitch.specs.History.{History, line_at}
use Rattle.fitch.specs.History.{Line as HistoryLine}
use Rattle.fitch.specs.Records.{innermost, reasons}
use Rattle.fitch.specs.declared.refusal.Refusal.{Refusal}
use Rattle.ledger.specs.Recorded.{no_line}
use Rattle.ledger.specs.declared.line.Line.{Line}
use Rattle.ledger.specs.declared.line.LineInfo.{LineInfo}

-- what is told of line i, counted from 1, is what the history says of it
pub record Tells (fs : List Formula) (h : History) (i : ℕ) (told : LineInfo) : Type 0 where
  pub line : HistoryLine
  pub stands : line_at h i ≡ Some line
  pub stored : told.formula < length fs
  pub formula : formula_at fs told.formula ≡ line.formula
  pub reason : slice_get (reasons h) (i - 1) ≡ Some told.reason
  pub inside : told.innermost ≡ innermost line.inside

-- what a record tells
abbrev pub info : Line → LineInfo
info e = record { formula = e.formula; reason = e.reason; innermost = e.inside }

-- the record of line i, counted from 1, if there is one
abbrev pub record_of : List Line → ℕ → Option Line
record_of es zero = None
record_of es (suc k) = slice_get es k

-- what asking for line i answers
abbrev pub LineTold : List Formula → History → ℕ → Result LineInfo Refusal → Type 0
LineTold fs h i r = MatchResult r (λ told. Accepted (line_checks h i) × Tells fs h i told) (Refused (line_checks h i))

-- the found-th line, counted from 1, is the last that no box contains
pub record IsLastTop (es : List Line) (found : ℕ) : Type 0 where
  pub some : 0 < found
  pub within : found ≤ length es
  pub top : (slice_index_or es (found - 1) no_line).inside ≡ 0
  pub later : (k : ℕ) → found ≤ k → k < length es → (slice_index_or es k no_line).inside ≢ 0

-- the last line that no box contains, if there is one
abbrev pub LastTop : List Line → Option ℕ → Type 0
LastTop es r = MatchOption r ((k : ℕ) → k < length es → (slice_index_or es k no_line).inside ≢ 0) (IsLastTop es)
