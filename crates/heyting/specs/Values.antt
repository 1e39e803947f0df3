-- The values of formulas in an algebra.
use Rattle.std.specs.Prelude.{ℕ, ◌-◌, ◌<◌, List, [], ◌∷◌, length, slice_index_or}
use Rattle.grammar.specs.Formula.{Formula}
use Rattle.grammar.specs.Formula.Formula.{falsum, letter, joined}
use Rattle.grammar.specs.declared.connective.Connective.{Connective}
use Rattle.grammar.specs.declared.connective.Connective.TheVariants.{And, Or, Implies}
use Rattle.heyting.specs.Meaning.{Meaning, Member}

-- what a connective does to values
abbrev pub operation : Meaning → Connective → ℕ → ℕ → ℕ
operation m And = m.meet
operation m Or = m.join
operation m Implies = m.arrow

-- under a valuation, which gives its first element to the letter a; a letter past its last has the bottom
abbrev pub value : Meaning → List ℕ → Formula → ℕ
value m v falsum = m.bottom
value m v (letter c) = slice_index_or v (c - 97) m.bottom
value m v (joined k f g) = operation m k (value m v f) (value m v g)

-- the meet of the values of formulas, in their order, from a on
abbrev pub meet_from : Meaning → List ℕ → ℕ → List Formula → ℕ
meet_from m v a [] = a
meet_from m v a (f ∷ fs) = meet_from m v (m.meet a (value m v f)) fs

-- the meet of formulas is that of their values, from the top on; of none it is the top
abbrev pub meet_all : Meaning → List ℕ → List Formula → ℕ
meet_all m v fs = meet_from m v m.top fs

-- a valuation by members
abbrev pub ByMembers : Meaning → List ℕ → Type 0
ByMembers m v = (i : ℕ) → i < length v → Member m (slice_index_or v i m.bottom)
