-- What loading a frame answers.
use Rattle.std.specs.Prelude.{◌≡◌, ℕ, ◌+◌, ◌<◌, ◌≤◌, List, length, slice_index_or}
use Rattle.heyting.specs.Limits.{most_worlds}
use Rattle.heyting.specs.declared.refusal.Refusal.{Refusal}
use Rattle.heyting.specs.declared.refusal.Refusal.TheVariants.{WorldsOutOfRange, NoSuchWorld, SpanTooLarge, NotMember, ShortBuffer, LetterNotMember}

-- a number of worlds that a frame can have
abbrev pub InRange : ℕ → Type 0
InRange n = (1 ≤ n) × (n ≤ most_worlds)

-- both of a pair are worlds below n
abbrev pub Named : ℕ → ℕ × ℕ → Type 0
Named n pair = (pair.0 < n) × (pair.1 < n)

-- what a load accepts
pub record Loadable (n : ℕ) (pairs : List (ℕ × ℕ)) : Type 0 where
  pub range : InRange n
  pub named : (k : ℕ) → k < length pairs → Named n (slice_index_or pairs k (0, 0))

-- the first pair that names no world stands at a place, from 1
pub record FirstUnnamed (n : ℕ) (pairs : List (ℕ × ℕ)) (place : ℕ) : Type 0 where
  pub index : ℕ
  pub place_is : place ≡ index + 1
  pub within : index < length pairs
  pub unnamed : Named n (slice_index_or pairs index (0, 0)) → ⊥
  pub before : (k : ℕ) → k < index → Named n (slice_index_or pairs k (0, 0))

-- what a load refuses
abbrev pub Unloadable : ℕ → List (ℕ × ℕ) → Refusal → Type 0
Unloadable n pairs WorldsOutOfRange = InRange n → ⊥
Unloadable n pairs (NoSuchWorld place) = InRange n × FirstUnnamed n pairs place
Unloadable n pairs SpanTooLarge = ⊥
Unloadable n pairs NotMember = ⊥
Unloadable n pairs ShortBuffer = ⊥
Unloadable n pairs (LetterNotMember letter) = ⊥
