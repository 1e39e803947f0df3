-- What holds of every algebra.
use Rattle.std.specs.Prelude.{◌≡◌, ℕ, List, map}
use mathlib.Core.List.{Memᴰ}
use Rattle.grammar.specs.Formula.{Formula}
use Rattle.heyting.specs.Layers.{single, product, nucleus, regular}
use Rattle.heyting.specs.Loading.{InRange, Loadable}
use Rattle.heyting.specs.Meaning.{Meaning, Member, Below, Lawful, Boolean, negation}
use Rattle.heyting.specs.Values.{value, meet_all, ByMembers}
use Rattle.heyting.specs.Worlds.{FrameOf}

-- worlds and pairs that can be loaded make an algebra, no two, and a lawful one
pub record Frames : Type 0 where
  pub some : (n : ℕ) (pairs : List (ℕ × ℕ)) → Loadable n pairs → (m : Meaning) × FrameOf n pairs m
  pub one : (n : ℕ) (pairs : List (ℕ × ℕ)) (m k : Meaning) → FrameOf n pairs m → FrameOf n pairs k → m ≡ k
  pub lawful : (n : ℕ) (pairs : List (ℕ × ℕ)) (m : Meaning) → InRange n → FrameOf n pairs m → Lawful m

-- each layer is lawful whenever what it stands on is, and the double-negation layer is Boolean
pub record Layers : Type 0 where
  pub single_lawful : Lawful single
  pub product_lawful : (m n : Meaning) → Lawful m → Lawful n → Lawful (product m n)
  pub nucleus_lawful : (m : Meaning) → Lawful m → (e : ℕ) → Lawful (nucleus m e)
  pub regular_lawful : (m : Meaning) → Lawful m → Lawful (regular m)
  pub regular_boolean : (m : Meaning) → Lawful m → Boolean (regular m)

-- under a valuation by members every formula has a member for its value
abbrev pub ValuesAreMembers : Type 0
ValuesAreMembers = (m : Meaning) → Lawful m → (v : List ℕ) → ByMembers m v → (f : Formula) → Member m (value m v f)

-- where each letter has in n the double negation of its value in m, every formula has the double negation of its value
abbrev pub DoubleNegations : Meaning → Meaning → Type 0
DoubleNegations m n =
    (v : List ℕ) → ByMembers m v → (f : Formula)
    → value n (map (λ a. negation m (negation m a)) v) f ≡ negation m (negation m (value m v f))

-- so it is in an algebra and its double-negation layer
abbrev pub LayerValuesAreDoubleNegations : Type 0
LayerValuesAreDoubleNegations = (m : Meaning) → Lawful m → DoubleNegations m (regular m)

-- the meet of a list of formulas is the greatest member below the value of each
pub record Greatest (m : Meaning) (v : List ℕ) (fs : List Formula) : Type 0 where
  pub member : Member m (meet_all m v fs)
  pub below : (f : Formula) → Memᴰ f fs → Below m (meet_all m v fs) (value m v f)
  pub greatest : (a : ℕ) → Member m a → ((f : Formula) → Memᴰ f fs → Below m a (value m v f)) → Below m a (meet_all m v fs)

abbrev pub MeetsAreGreatest : Type 0
MeetsAreGreatest = (m : Meaning) → Lawful m → (v : List ℕ) → ByMembers m v → (fs : List Formula) → Greatest m v fs
