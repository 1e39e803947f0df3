-- Examples of frames, products and the double-negation layer, from the definitions.
use Rattle.std.specs.Prelude.{◌≡◌, ℕ, ◌⊎◌, ◌↔◌, List, [], ◌∷◌, slice_index}
use Rattle.grammar.specs.Formula.{Formula, negation as not_formula}
use Rattle.grammar.specs.Formula.Formula.{letter, joined}
use Rattle.grammar.specs.declared.connective.Connective.TheVariants.{Or}
use Rattle.heyting.specs.Meaning.{Meaning, Member, negation}
use Rattle.heyting.specs.Layers.{product, regular}
use Rattle.heyting.specs.Values.{value}
use Rattle.heyting.specs.Worlds.{FrameOf}

-- (p|~p)
abbrev pub excluded_middle : Formula
excluded_middle = joined Or (letter 112) (not_formula (letter 112))

-- worlds 0 below 1
pub record TwoStages (m : Meaning) : Type 0 where
  pub members : (a : ℕ) → Member m a ↔ ((a ≡ 0) ⊎ ((a ≡ 2) ⊎ (a ≡ 3)))
  pub not_two : negation m 2 ≡ 0
  pub not_zero : negation m 0 ≡ 3
  pub unsettled : (v : List ℕ) → slice_index v 15 ≡ 2 → value m v excluded_middle ≡ 2

-- in the double-negation layer of worlds 0 below 1, p is settled
pub record SettledStages (m : Meaning) : Type 0 where
  pub members : (a : ℕ) → Member (regular m) a ↔ ((a ≡ 0) ⊎ (a ≡ 3))
  pub refuted : (v : List ℕ) → slice_index v 15 ≡ 0 → value (regular m) v excluded_middle ≡ 3
  pub established : (v : List ℕ) → slice_index v 15 ≡ 3 → value (regular m) v excluded_middle ≡ 3

pub record Examples : Type 0 where
  pub two_stages : (m : Meaning) → FrameOf 2 ((0, 1) ∷ []) m → TwoStages m
  pub settled_stages : (m : Meaning) → FrameOf 2 ((0, 1) ∷ []) m → SettledStages m
  pub ring : (m : Meaning) → FrameOf 3 ((0, 1) ∷ (1, 2) ∷ (2, 0) ∷ []) m → (a : ℕ) → Member m a ↔ ((a ≡ 0) ⊎ (a ≡ 7))
  pub two_singles : (m n : Meaning) → FrameOf 1 [] m → FrameOf 1 [] n → (product m n).arrow 2 1 ≡ 1
