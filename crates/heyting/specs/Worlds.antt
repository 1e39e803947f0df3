-- Sets of worlds as numbers, and what a finite frame of worlds means.
use Rattle.std.specs.Prelude.{◌≡◌, ℕ, ◌-◌, ◌/◌, ◌%◌, ◌^◌, ◌<◌, Bool, true, List, Decides, ◌==◌, bit_and, bit_or}
use Rattle.heyting.specs.Meaning.{Meaning}
use Rattle.heyting.specs.Order.{Order}

-- world u belongs to a: the bit of worth 2^u
unfoldable pub holds : ℕ → ℕ → Bool
holds a u = a / 2 ^ u % 2 == 1

abbrev pub Has : ℕ → ℕ → Type 0
Has a u = holds a u ≡ true

-- m is the algebra of n worlds with `R u v` where v is at or above u, told world by world
pub record OfWorlds (n : ℕ) (R : ℕ → ℕ → Type 0) (m : Meaning) : Type 0 where
  pub span_is : m.span ≡ 2 ^ n
  pub bottom_is : m.bottom ≡ 0
  pub top_is : m.top ≡ 2 ^ n - 1
  -- with each world a member has all above it
  pub member_is : (a : ℕ) → Decides (m.member a) ((a < 2 ^ n) × ((u v : ℕ) → u < n → v < n → R u v → Has a u → Has a v))
  pub meet_is : (a b : ℕ) → m.meet a b ≡ bit_and a b
  pub join_is : (a b : ℕ) → m.join a b ≡ bit_or a b
  -- the arrow has the worlds u such that every world of a at or above u is in b
  pub arrow_below : (a b : ℕ) → m.arrow a b < 2 ^ n
  pub arrow_is : (a b u : ℕ) → u < n → Decides (holds (m.arrow a b) u) ((v : ℕ) → v < n → R u v → Has a v → Has b v)

-- m is the algebra of the frame of n worlds and the pairs
abbrev pub FrameOf : ℕ → List (ℕ × ℕ) → Meaning → Type 0
FrameOf n pairs m = OfWorlds n (Order pairs) m
