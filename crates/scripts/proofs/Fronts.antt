-- How many records come before the first of some kind.
use Rattle.std.proofs.Common.{◌≡◌, ℕ, ◌+◌, ◌≤◌, Bool, true, false, cond, not, nat_lt, ltb-false, List, map, length, position, Some, None, refl, sym, ◌∙◌, arith}
use Rattle.std.specs.List.{position_or_len}
use Rattle.std.specs.Option.{unwrap_or}
use Rattle.std.proofs.lemmas.List.Sums.{prefix_len-le-length}
use Rattle.std.proofs.lemmas.List.Recursion.{is_position_or_len}
use Rattle.entries.specs.Entries.{Said, stored}
use Rattle.entries.specs.declared.entry.Entry.{Entry}

turned : (b : Bool) (n : ℕ) → cond (not b) (1 + n) 0 ≡ cond b 0 (1 + n)
turned true n = refl
turned false n = refl

module _ {A : Type 0} (p : A → Bool) where
  at_most : (xs : List A) → position_or_len p xs ≤ length xs
  at_most xs = prefix_len-le-length (λ x. not (p x)) xs

  counted : (xs : List A) → unwrap_or (position p xs) (length xs) ≡ position_or_len p xs
  counted xs = at (nat_lt (position_or_len p xs) (length xs)) refl
    where
      at : (b : Bool) → nat_lt (position_or_len p xs) (length xs) ≡ b → unwrap_or (cond b (Some (position_or_len p xs)) None) (length xs) ≡ position_or_len p xs
      at true less = refl
      at false not_less = omega (arith, at_most xs, ltb-false (position_or_len p xs) (length xs) not_less)

-- the records before the first of some kind are counted
pub first_counted : (q : Said ℕ → Bool) (es : List (Entry ℕ)) → unwrap_or (position (λ e. q (stored e)) es) (length es) ≡ position_or_len q (map stored es)
first_counted q es = counted (λ e. q (stored e)) es ∙ sym (is_position_or_len (λ xs. position_or_len q (map stored xs)) (λ e. q (stored e)) refl (λ x xs. turned (q (stored x)) _) es)

pub first_within : (q : Said ℕ → Bool) (es : List (Entry ℕ)) → position_or_len q (map stored es) ≤ length es
first_within q es = omega (arith, at_most (λ e. q (stored e)) es, is_position_or_len (λ xs. position_or_len q (map stored xs)) (λ e. q (stored e)) refl (λ x xs. turned (q (stored x)) _) es)
