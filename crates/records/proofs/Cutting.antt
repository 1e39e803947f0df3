-- A text is cut at the first byte that passes a test.
use Rattle.std.proofs.Common.{◌≡◌, ℕ, suc, ◌+◌, ◌-◌, ◌<◌, ◌≤◌, Bool, true, false, cond, nat_lt, ltb-false, ltb-true, List, [], ◌∷◌, length, get_or, take, drop, position, ◌==◌, Some, None, Option, refl, sym, ap, ◌∙◌, subst, arith}
use Rattle.std.specs.List.{slice_split, onto_first, position_or_len, before_first, count_by}
use Rattle.std.proofs.lemmas.List.Splits.{slice_split-cons_no, slice_split_first, length-slice_split}
use Rattle.records.specs.Pieces.{last_piece, ended, records}
use Rattle.std.proofs.lemmas.List.Sums.{count_by-le-length, fails_before_first}
use Rattle.std.proofs.lemmas.List.{length-drop}
use Rattle.std.proofs.Math.Seq.{take-length}
use Rattle.std.specs.Option.{unwrap_or}

all_behind : (xs : List ℕ) (k : ℕ) → take (length xs - k) (drop k xs) ≡ drop k xs
all_behind xs k = ap (λ n. take n (drop k xs)) (sym (length-drop k xs)) ∙ take-length (drop k xs)

some_same : {a b : ℕ} → ◌≡◌ {A = Option ℕ} (Some a) (Some b) → a ≡ b
some_same e = ap (λ o. unwrap_or o 0) e

module _ (p : ℕ → Bool) where
  whole : (xs : List ℕ) → ((k : ℕ) → k < length xs → p (get_or xs k 0) ≡ false) → slice_split p xs ≡ xs ∷ []
  whole [] fails = refl
  whole (x ∷ xs) fails = slice_split-cons_no p x xs (fails 0 (omega arith)) ∙ ap (onto_first x) (whole xs (λ k lt. fails (suc k) (omega (arith, lt))))

  pub cut_some : (xs : List ℕ) (k : ℕ) → position p xs ≡ Some k → slice_split p xs ≡ take k xs ∷ slice_split p (take (length xs - (k + 1)) (drop (k + 1) xs))
  cut_some xs k found = at (nat_lt (position_or_len p xs) (length xs)) refl found
    where
      at : (b : Bool) → nat_lt (position_or_len p xs) (length xs) ≡ b → cond b (Some (position_or_len p xs)) None ≡ Some k → slice_split p xs ≡ take k xs ∷ slice_split p (take (length xs - (k + 1)) (drop (k + 1) xs))
      at true less is =
          subst (λ n. slice_split p xs ≡ take n xs ∷ slice_split p (take (length xs - (n + 1)) (drop (n + 1) xs))) (some_same is)
          (slice_split_first p xs 0 (ltb-true (position_or_len p xs) (length xs) less) ∙ ap (λ ys. before_first p xs ∷ slice_split p ys) (sym (all_behind xs (position_or_len p xs + 1))))
      at false not_less is = absurd (cc)

  pub cut_none : (xs : List ℕ) → position p xs ≡ None → slice_split p xs ≡ xs ∷ []
  cut_none xs none = at (nat_lt (position_or_len p xs) (length xs)) refl none
    where
      at : (b : Bool) → nat_lt (position_or_len p xs) (length xs) ≡ b → cond b (Some (position_or_len p xs)) None ≡ None → slice_split p xs ≡ xs ∷ []
      at true less is = absurd (cc)
      at false not_less is = whole xs (λ k lt. fails_before_first p xs k 0 (omega (arith, lt, ltb-false (position_or_len p xs) (length xs) not_less)))

-- what stands behind the first byte 10 has the records that are left
pub first_ended : (s first rest : List ℕ) → slice_split (λ b. b == 10) s ≡ first ∷ slice_split (λ b. b == 10) rest → records s ≡ (first, true) ∷ records rest
first_ended s first rest e = ap ended e ∙ some_left (slice_split (λ b. b == 10) rest) (length-slice_split (λ b. b == 10) rest)
  where
    some_left : (ps : List (List ℕ)) → length ps ≡ count_by (λ b. b == 10) rest + 1 → ended (first ∷ ps) ≡ (first, true) ∷ ended ps
    some_left [] e = absurd (omega (arith, e))
    some_left (p ∷ ps) e = refl

-- with no byte 10 the rest is one record, which nothing ends
pub only_record : (s : List ℕ) → 0 < length s → slice_split (λ b. b == 10) s ≡ s ∷ [] → records s ≡ (s, false) ∷ []
only_record s some e = ap ended e ∙ alone s some
  where
    alone : (s : List ℕ) → 0 < length s → last_piece s ≡ (s, false) ∷ []
    alone [] some = absurd (omega (arith, some))
    alone (b ∷ bs) some = refl

-- an input has at most one record more than it has bytes
pub few : (s : List ℕ) → length (records s) ≤ length s + 1
few s = omega (arith, no_more (slice_split (λ b. b == 10) s), length-slice_split (λ b. b == 10) s, count_by-le-length (λ b. b == 10) s)
  where
    last_one : (p : List ℕ) → length (last_piece p) ≤ 1
    last_one [] = omega arith
    last_one (b ∷ bs) = omega arith

    no_more : (ps : List (List ℕ)) → length (ended ps) ≤ length ps
    no_more [] = omega arith
    no_more (p ∷ []) = last_one p
    no_more (p ∷ q ∷ ps) = omega (arith, no_more (q ∷ ps))
