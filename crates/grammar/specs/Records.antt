-- What a list of records stands for.
use Rattle.std.specs.Prelude.{◌≡◌, ℕ, ◌<◌, Bool, true, ◌&&◌, List, [], ◌∷◌, ◌++◌, length, nat_lt, slice_index_or}
use Rattle.grammar.specs.Formula.{Formula}
use Rattle.grammar.specs.Formula.Formula.{falsum, letter, joined}
use Rattle.grammar.specs.Contents.{formula_at, Once}
use Rattle.grammar.specs.declared.node.Node.{Node}
use Rattle.grammar.specs.declared.node.Node.TheVariants.{Falsum, Letter, Joined}

-- the formula of a record, whose parts stand at their places in fs
abbrev pub meaning : List Formula → Node → Formula
meaning fs Falsum = falsum
meaning fs (Letter c) = letter c
meaning fs (Joined k i j) = joined k (formula_at fs i) (formula_at fs j)

abbrev pub formulas_after : List Formula → List Node → List Formula
formulas_after fs [] = fs
formulas_after fs (n ∷ ns) = formulas_after (fs ++ meaning fs n ∷ []) ns

-- the formulas of records, each at its record's place, made of those at the places before
abbrev pub formulas : List Node → List Formula
formulas ns = formulas_after [] ns

-- the parts of a record stand below a place
abbrev pub parts_below : ℕ → Node → Bool
parts_below i Falsum = true
parts_below i (Letter c) = true
parts_below i (Joined k a b) = nat_lt a i && nat_lt b i

-- the parts of each record stand below it
abbrev pub Founded : List Node → Type 0
Founded ns = (i : ℕ) → i < length ns → parts_below i (slice_index_or ns i Falsum) ≡ true

-- a record by which the formula at a place is made of formulas below
pub record MadeOf (fs : List Formula) (place : ℕ) (n : Node) : Type 0 where
  pub stored : place < length fs
  pub formula : formula_at fs place ≡ meaning fs n
  pub below : parts_below place n ≡ true

-- where each formula is held once, a formula is made in one way
abbrev pub OneMaking : Type 0
OneMaking = (fs : List Formula) (place : ℕ) (n m : Node) → Once fs → MadeOf fs place n → MadeOf fs place m → n ≡ m
