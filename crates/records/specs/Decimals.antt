-- The numbers of files are decimals.
use Rattle.std.specs.Prelude.{◌≡◌, ℕ, ◌≤◌, ◌↔◌, List, length, Some}
use Rattle.std.specs.Fmt.{decimal}
use Rattle.records.specs.Limits.{most_digits}
use Rattle.records.specs.Numbers.{number}

-- a field writes n just where it is the decimal of n, in at most five digits
abbrev pub NumbersAreDecimals : Type 0
NumbersAreDecimals = (s : List ℕ) (n : ℕ) → (number s ≡ Some n) ↔ ((s ≡ decimal n) × (length s ≤ most_digits))
