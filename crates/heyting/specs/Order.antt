-- The order that pairs of worlds make.
use Rattle.std.specs.Prelude.{◌≡◌, ℕ, ◌<◌, List, length, slice_index_or}

-- some pair says that u lies below v
abbrev pub Stated : List (ℕ × ℕ) → ℕ → ℕ → Type 0
Stated pairs u v = (k : ℕ) × (k < length pairs) × (slice_index_or pairs k (0, 0) ≡ (u, v))

-- the reflexive and transitive closure of the pairs
pub data Order (pairs : List (ℕ × ℕ)) : ℕ → ℕ → Type 0 where
  same : {u : ℕ} → Order pairs u u
  step : {u v w : ℕ} → Stated pairs u v → Order pairs v w → Order pairs u w
