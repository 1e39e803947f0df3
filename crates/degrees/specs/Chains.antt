-- What a chain of degrees means.
use Rattle.std.specs.Prelude.{ℕ, ◌-◌, ◌≤◌, min, max, cond, nat_le, nat_lt}
use Rattle.heyting.specs.Limits.{most_span}
use Rattle.heyting.specs.Meaning.{Meaning}

-- a chain has 1 to 65,536 degrees
abbrev pub InRange : ℕ → Type 0
InRange n = (1 ≤ n) × (n ≤ most_span)

-- the chain of n degrees, from 0 to n - 1
abbrev pub chain : ℕ → Meaning
chain n = record {
  span = n;
  member = λ a. nat_lt a n;
  bottom = 0;
  top = n - 1;
  meet = min;
  join = max;
  arrow = λ a b. cond (nat_le a b) (n - 1) b;
}
