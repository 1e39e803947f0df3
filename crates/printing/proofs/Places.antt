-- The first item of a list, and those behind it.
use Rattle.std.proofs.Common.{◌≡◌, ℕ, zero, suc, ◌-◌, ◌<◌, List, [], ◌∷◌, map, length, get_or, take, drop, ap, subst, arith}
use Rattle.std.proofs.lemmas.List.{take_all}
use Rattle.verdicts.specs.Weighing.{AllBelow}

-- the items behind the first, as a pattern binds them
abbrev pub others : {A : Type 0} → List A → List A
others xs = take (length xs - 1) (drop 1 xs)

others_are : {A : Type 0} (x : A) (xs : List A) → others (x ∷ xs) ≡ xs
others_are x xs = take_all (length (x ∷ xs) - 1) xs (omega arith)

pub first_of : {A : Type 0} (f : A → List ℕ) (d : A) (xs : List A) → 0 < length xs → f (get_or xs 0 d) ∷ map f (others xs) ≡ map f xs
first_of f d [] h = absurd (omega (arith, h))
first_of f d (x ∷ xs) h = ap (λ ys. f x ∷ map f ys) (others_are x xs)

pub all_below : (places : List ℕ) (n : ℕ) → get_or places 0 0 < n → AllBelow (others places) n → AllBelow places n
all_below [] n first behind = λ k h. absurd (omega (arith, h))
all_below (p ∷ places) n first behind = at_place
  where
    at_place : (k : ℕ) → k < length (p ∷ places) → get_or (p ∷ places) k 0 < n
    at_place zero h = first
    at_place (suc k) h = subst (λ ps. AllBelow ps n) (others_are p places) behind k (omega (arith, h))
