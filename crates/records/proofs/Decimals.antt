-- A field writes the number n just where it is the decimal of n.
use Rattle.std.proofs.Common.{◌≡◌, ℕ, zero, suc, ◌+◌, ◌-◌, ◌*◌, ◌/◌, ◌%◌, ◌^◌, ◌<◌, ◌≤◌, ◌==◌, Bool, true, false, cond, nat_lt, ◌||◌, List, [], ◌∷◌, length, get_or, Some, None, Option, refl, sym, ap, ◌∙◌, subst, inl, inr, arith, eqb-true, ltb-false, le-ltb, ne_eqb, eq-eqb, lt-ltb, lit≤}
use Rattle.std.proofs.Math.Nat.{one-le-pow, pow-le-pow_right}
use Rattle.std.proofs.lemmas.Bool.{cases_Bool, eqb-false, cond_both, cases_lt, or_parts, or_from, and_left, and_right, and_from, both_ways, cond-false}
use Rattle.std.proofs.lemmas.Fmt.{decimal_is_IsNumeral, decimal_digit, first_decimal, decimal-digits_value}
use Rattle.std.proofs.lemmas.Int.Digits.{digits_value-lt}
use Rattle.std.proofs.lemmas.Option.{same_Some, none-some}
use Rattle.std.proofs.lemmas.Str.Parse.{numerals_by_value, tells_digits, digit_from_value}
use Rattle.std.proofs.lemmas.Str.{digit_value_digit}
use Rattle.std.specs.Char.{digit_value}
use Rattle.std.specs.Fmt.{decimal, digit_glyph, digits_onto, digits as written}
use Rattle.std.specs.Str.Parse.{AllDigits, digits_value, digits_value_after}
use Rattle.records.specs.Numbers.{digit, digits, leads_with_zero, number}
use Rattle.records.specs.Limits.{most_digits}
use Rattle.records.specs.Decimals.{NumbersAreDecimals}

no_shorter : (k n : ℕ) (acc : List ℕ) → length acc ≤ length (digits_onto k 10 false n acc)
no_shorter zero n acc = omega arith
no_shorter (suc k) n acc =
    let g = digit_glyph false (n % 10) in
    cond_both (n / 10 == 0) _ _ (λ ds. length acc ≤ length ds) (λ e. omega arith) (λ e. omega (arith, no_shorter k (n / 10) (g ∷ acc)))

-- from 10 ^ j on a number has more than j digits
long : (j k n : ℕ) (acc : List ℕ) → 10 ^ j ≤ n → j < k → j + length acc < length (digits_onto k 10 false n acc)
long j zero n acc large room = absurd (omega arith)
long zero (suc k) n acc large room =
    let g = digit_glyph false (n % 10) in
    cond_both (n / 10 == 0) _ _ (λ ds. 0 + length acc < length ds) (λ e. omega arith) (λ e. omega (arith, no_shorter k (n / 10) (g ∷ acc)))
long (suc j) (suc k) n acc large room =
    let g = digit_glyph false (n % 10) in
    let some : 0 < 10 ^ j = omega (arith, one-le-pow j 10 (lit≤ tt)) in
    let front : 10 ^ j ≤ n / 10 = omega arith in
    cond_both (n / 10 == 0) _ _ (λ ds. suc j + length acc < length ds)
    (λ e. absurd (omega (arith, eqb-true (n / 10) 0 e)))
    (λ e. omega (arith, long j k (n / 10) (g ∷ acc) front (omega arith)))

spelled : (n : ℕ) → digits_onto 64 10 false n [] ≡ decimal n
unfolding written
spelled n = refl

long_decimal : (n : ℕ) → 10 ^ 5 ≤ n → 5 < length (decimal n)
long_decimal n large = omega (arith, subst (λ ds. 5 + length {A = ℕ} [] < length ds) (spelled n) (long 5 64 n [] large (lit≤ tt)))

accepted : (t : Bool) (o : Option ℕ) (n : ℕ) → cond t None o ≡ Some n → (t ≡ false) × (o ≡ Some n)
accepted true o n e = absurd (cc)
accepted false o n e = (refl, e)

-- a digit makes the number so far ten times as great, and is added to it
within : (k b : ℕ) (bs : List ℕ) → (48 ≤ b) × (b ≤ 57) → digits k (b ∷ bs) ≡ digits (k * 10 + digit_value b) bs
within k b bs range =
    let worth : digit b ≡ Some (b - 48) = cond-false _ None (Some (b - 48)) (or_from _ _ (le-ltb b 48 range.0) (le-ltb 57 b range.1)) in
    rw worth (ap (λ m. digits m bs) (omega (arith, digit_value_digit b range, range.0)))

outside : (k b : ℕ) (bs : List ℕ) → (nat_lt b 48 || nat_lt 57 b) ≡ true → digits k (b ∷ bs) ≡ None
outside k b bs out = rw out refl

read : (k n : ℕ) (s : List ℕ) → digits k s ≡ Some n → AllDigits 10 s × (digits_value_after 10 k s ≡ n)
read k n [] e = (tt, same_Some _ _ e)
read k n (b ∷ bs) e = elim (cases_Bool (nat_lt b 48 || nat_lt 57 b)) [
  | inl out ↦ absurd (none-some n (sym (outside k b bs out) ∙ e))
  | inr inside ↦
      let (low, high) = or_parts (nat_lt b 48) (nat_lt 57 b) inside in
      let range : (48 ≤ b) × (b ≤ 57) = (ltb-false b 48 low, ltb-false 57 b high) in
      let (all, sum) = read (k * 10 + digit_value b) n bs (sym (within k b bs range) ∙ e) in
      ((omega (arith, digit_value_digit b range, range.1), all), sum)
]

read_back : (k : ℕ) (s : List ℕ) → AllDigits 10 s → digits k s ≡ Some (digits_value_after 10 k s)
read_back k [] d = refl
read_back k (b ∷ bs) d = within k b bs (digit_from_value b d.0) ∙ read_back (k * 10 + digit_value b) bs d.1

no_leading_zero : (n : ℕ) → n < 2 ^ 64 → leads_with_zero (decimal n) ≡ false
no_leading_zero n fits = elim (cases_lt 0 n) [
  | inl some ↦ and_right _ _ (ne_eqb (get_or (decimal n) 0 0) 48 (λ e. omega (arith, e, first_decimal n some fits)))
  | inr none ↦ and_left _ _ (le-ltb 1 (length (decimal n)) (omega (arith, ap length (decimal_digit n (omega (arith, none))))))
]

is_decimal : (s : List ℕ) (n : ℕ) → number s ≡ Some n → (s ≡ decimal n) × (length s ≤ most_digits)
is_decimal s n e =
    let (fits, some) = accepted (length s == 0 || nat_lt most_digits (length s) || leads_with_zero s) (digits 0 s) n e in
    let (bounds, leading) = or_parts (length s == 0 || nat_lt most_digits (length s)) (leads_with_zero s) fits in
    let (none, many) = or_parts (length s == 0) (nat_lt most_digits (length s)) bounds in
    let (all, sum) = read 0 n s some in
    let some_digit : 0 < length s = omega (arith, eqb-false (length s) 0 none) in
    let short : length s ≤ 5 = ltb-false most_digits (length s) many in
    let alone : get_or s 0 0 ≡ 48 → length s ≡ 1 = λ zero_first.
    elim (cases_lt 1 (length s)) [
      | inl more ↦ absurd (both_ways _ leading (and_from _ _ (lt-ltb _ _ more) (eq-eqb _ _ zero_first)))
      | inr one ↦ omega (arith, some_digit, one)
    ] in
    let small : digits_value 10 s < 2 ^ 64 = omega (arith, digits_value-lt 10 s all, pow-le-pow_right {n = 10} (lit≤ tt) short) in
    (sym (decimal-digits_value (numerals_by_value _ tells_digits) s all some_digit alone small) ∙ ap decimal sum, short)

decimal_is : (n : ℕ) → length (decimal n) ≤ most_digits → number (decimal n) ≡ Some n
decimal_is n short =
    let small : n < 10 ^ 5 = elim (cases_lt n (10 ^ 5)) [ inl less ↦ less | inr large ↦ absurd (omega (arith, short, long_decimal n large)) ] in
    let fits : n < 2 ^ 64 = omega (arith, small) in
    let (numeral, value) = decimal_is_IsNumeral n fits in
    cond-false _ None (digits 0 (decimal n)) (or_from _ _ (or_from _ _ (ne_eqb (length (decimal n)) 0 (λ e. omega (arith, e, numeral.0))) (le-ltb most_digits (length (decimal n)) short)) (no_leading_zero n fits))
    ∙ read_back 0 (decimal n) numeral.1 ∙ ap Some value

pub numbers_are_decimals : NumbersAreDecimals
numbers_are_decimals s n = (is_decimal s n, λ h. subst (λ t. number t ≡ Some n) (sym h.0) (decimal_is n (subst (λ t. length t ≤ most_digits) h.0 h.1)))
