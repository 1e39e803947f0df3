-- Records that come in their turns, and records that do not.
use Rattle.std.specs.Prelude.{◌≡◌, ◌⊎◌, ℕ, suc, true, false, List, [], ◌∷◌, Some, None}
use Rattle.entries.specs.Entries.{Said}
use Rattle.entries.specs.Turns.{follow, complete}
use Rattle.entries.specs.declared.kind.Kind.{Kind}
use Rattle.entries.specs.declared.kind.Kind.TheVariants as kinds
use Rattle.entries.specs.declared.turn.Format.{Format}
use Rattle.entries.specs.declared.turn.Turn.{Turn}

abbrev pub kind_said : {F : Type 0} → Said F → Kind
kind_said (Said.mode m) = kinds.Mode
kind_said (Said.premise p) = kinds.Premise
kind_said (Said.assume p) = kinds.Assume
kind_said (Said.step p r cs) = kinds.Step
kind_said Said.close = kinds.Close
kind_said Said.separator = kinds.Separator
kind_said (Said.base n) = kinds.Base
kind_said (Said.pair u v) = kinds.Pair
kind_said (Said.nucleus e) = kinds.Nucleus
kind_said (Said.value a e) = kinds.Value

-- from a turn on each record comes in its own, and the last where an input may end
pub data InTurn (format : Format) : Turn → List (Said ℕ) → Type 0 where
  end : {turn : Turn} → complete format turn ≡ true → InTurn format turn []
  more : {turn : Turn} {x : Said ℕ} {xs : List (Said ℕ)} (later : Turn) → follow format turn (kind_said x) ≡ Some later → InTurn format later xs → InTurn format turn (x ∷ xs)

-- from a turn on the first n records come in their own, and the next has none, or is absent where an input may not end
pub data OutOfTurn (format : Format) : Turn → List (Said ℕ) → ℕ → Type 0 where
  absent : {turn : Turn} → complete format turn ≡ false → OutOfTurn format turn [] 0
  here : {turn : Turn} {x : Said ℕ} {xs : List (Said ℕ)} → follow format turn (kind_said x) ≡ None → OutOfTurn format turn (x ∷ xs) 0
  more :
      {turn : Turn} {x : Said ℕ} {xs : List (Said ℕ)} {n : ℕ} (later : Turn) → follow format turn (kind_said x) ≡ Some later → OutOfTurn format later xs n
      → OutOfTurn format turn (x ∷ xs) (suc n)

-- records come in their turns, or are out of turn at one place, and not both
pub record OnePlace : Type 0 where
  pub either : (format : Format) (turn : Turn) (xs : List (Said ℕ)) → InTurn format turn xs ⊎ ((n : ℕ) × OutOfTurn format turn xs n)
  pub not_both : (format : Format) (turn : Turn) (xs : List (Said ℕ)) (n : ℕ) → InTurn format turn xs → OutOfTurn format turn xs n → ⊥
  pub one_place : (format : Format) (turn : Turn) (xs : List (Said ℕ)) (n m : ℕ) → OutOfTurn format turn xs n → OutOfTurn format turn xs m → n ≡ m
