-- Numbers as files write them.
use Rattle.std.specs.Prelude.{ℕ, ◌+◌, ◌-◌, ◌*◌, ◌==◌, ◌&&◌, ◌||◌, nat_lt, if◌then◌else◌, Bool, List, [], ◌∷◌, length, slice_index, Some, None, Option}
use Rattle.records.specs.Limits.{most_digits}

-- what a digit's byte, 48 to 57, is worth
abbrev pub digit : ℕ → Option ℕ
digit b = if nat_lt b 48 || nat_lt 57 b then None else Some (b - 48)

abbrev pub then_digit : Option ℕ → (ℕ → Option ℕ) → Option ℕ
then_digit None next = None
then_digit (Some d) next = next d

-- the number that n and the digits after it write
abbrev pub digits : ℕ → List ℕ → Option ℕ
digits n [] = Some n
digits n (b ∷ bs) = then_digit (digit b) (λ d. digits (10 * n + d) bs)

abbrev pub leads_with_zero : List ℕ → Bool
leads_with_zero s = nat_lt 1 (length s) && slice_index s 0 == 48

-- one to five digits, of which the first of several is not 0
abbrev pub number : List ℕ → Option ℕ
number s = if length s == 0 || nat_lt most_digits (length s) || leads_with_zero s then None else digits 0 s
