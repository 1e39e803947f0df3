-- How a stored formula is joined, by places.
use Rattle.std.specs.Prelude.{◌≡◌, ℕ, ◌<◌, List, length, ◌≢◌}
use Rattle.grammar.specs.Contents.{formula_at}
use Rattle.grammar.specs.Formula.{Formula}
use Rattle.grammar.specs.Formula.Formula.{joined}
use Rattle.grammar.specs.declared.connective.Connective.{Connective}

-- the formula at a place is those at two places, joined by k; all three are stored
pub record Joined (fs : List Formula) (place : ℕ) (k : Connective) (first second : ℕ) : Type 0 where
  pub whole_in : place < length fs
  pub first_in : first < length fs
  pub second_in : second < length fs
  pub is : formula_at fs place ≡ joined k (formula_at fs first) (formula_at fs second)

-- no stored formula that is joined by k
abbrev pub NotJoined : List Formula → ℕ → Connective → Type 0
NotJoined fs place k = place < length fs → (A B : Formula) → formula_at fs place ≢ joined k A B
