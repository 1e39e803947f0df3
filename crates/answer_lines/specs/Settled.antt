-- An input has one line.
use Rattle.std.specs.Prelude.{◌≡◌, ℕ, List, Result}
use Rattle.grammar.specs.Formula.{Formula}
use Rattle.ledger.specs.declared.line.Line.{Line}
use Rattle.entries.specs.declared.entry.Entry.{Entry}
use Rattle.answer_lines.specs.Answered.{CheckedLine, WeighedLine}
use Rattle.answer_lines.specs.declared.unprinted.Unprinted.{Unprinted}

-- no two answers, and no two buffers after them
pub record OneLine : Type 0 where
  pub checked :
      (capacity : ℕ) (s : List ℕ) (fs gs hs : List Formula) (entries ea eb : List (Entry ℕ)) (lines la lb : List Line) (before a b : List ℕ) (r q : Result ℕ Unprinted)
      → CheckedLine capacity s fs gs entries ea lines la before a r → CheckedLine capacity s fs hs entries eb lines lb before b q → (r ≡ q) × (a ≡ b)
  pub weighed :
      (capacity : ℕ) (s : List ℕ) (fs gs hs : List Formula) (entries ea eb : List (Entry ℕ)) (lines la lb : List Line) (values va vb before a b : List ℕ) (r q : Result ℕ Unprinted)
      → WeighedLine capacity s fs gs entries ea lines la values va before a r → WeighedLine capacity s fs hs entries eb lines lb values vb before b q → (r ≡ q) × (a ≡ b)
