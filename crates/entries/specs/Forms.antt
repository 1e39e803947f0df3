-- The form of each kind of record: what it says, or the number of its first wrong, missing or surplus field.
use Rattle.std.specs.Prelude.{ℕ, zero, suc, ◌+◌, true, false, List, [], ◌∷◌, length, Some, None, Option, Ok, Err, Result}
use Rattle.std.specs.Option.{option_map}
use Rattle.records.specs.Numbers.{number}
use Rattle.records.specs.Pieces.{Piece, fields}
use Rattle.entries.specs.Entries.{Said}
use Rattle.entries.specs.Kinds.{kind_of, rule_named, mode_named, letter}
use Rattle.entries.specs.Turns.{follow}
use Rattle.entries.specs.declared.kind.Kind.{Kind}
use Rattle.entries.specs.declared.kind.Kind.TheVariants as kinds
use Rattle.entries.specs.declared.turn.Format.{Format}
use Rattle.entries.specs.declared.turn.Turn.{Turn}

abbrev pub onto : {A B E : Type 0} → (A → B) → Result A E → Result B E
onto f (Ok x) = Ok (f x)
onto f (Err e) = Err e

-- what field n holds, or that field is wrong
abbrev pub given : {A B : Type 0} → ℕ → Option A → (A → Result B ℕ) → Result B ℕ
given n None next = Err n
given n (Some x) next = next x

-- x, if no field n follows
abbrev pub alone : {A : Type 0} → A → ℕ → List (List ℕ) → Result A ℕ
alone x n [] = Ok x
alone x n (f ∷ fs) = Err n

abbrev pub text : List (List ℕ) → Result (List ℕ) ℕ
text [] = Err 2
text (f ∷ fs) = alone f 3 fs

abbrev pub mode_form : List (List ℕ) → Result (Said (List ℕ)) ℕ
mode_form [] = Err 2
mode_form (f ∷ fs) = given 2 (mode_named f) (λ m. alone (Said.mode m) 3 fs)

-- at most so many numbers, the first of them in field n
abbrev pub numbers : ℕ → ℕ → List (List ℕ) → Result (List ℕ) ℕ
numbers n most [] = Ok []
numbers n zero (f ∷ fs) = Err n
numbers n (suc most) (f ∷ fs) = given n (number f) (λ v. onto (λ vs. v ∷ vs) (numbers (n + 1) most fs))

abbrev pub citations : List (List ℕ) → Result (List ℕ) ℕ
citations [] = Err 4
citations (f ∷ fs) = numbers 4 3 (f ∷ fs)

abbrev pub step_form : List (List ℕ) → Result (Said (List ℕ)) ℕ
step_form [] = Err 2
step_form (f ∷ []) = Err 3
step_form (f ∷ r ∷ fs) = given 3 (rule_named r) (λ k. onto (Said.step f k) (citations fs))

abbrev pub one_number : List (List ℕ) → Result ℕ ℕ
one_number [] = Err 2
one_number (f ∷ fs) = given 2 (number f) (λ n. alone n 3 fs)

-- a number in field 3, the last, joined to what field 2 holds
abbrev pub last_number : {A B : Type 0} → (A → ℕ → B) → A → List (List ℕ) → Result B ℕ
last_number join a [] = Err 3
last_number join a (f ∷ fs) = given 3 (number f) (λ n. alone (join a n) 4 fs)

abbrev pub pair_form : List (List ℕ) → Result (Said (List ℕ)) ℕ
pair_form [] = Err 2
pair_form (f ∷ fs) = given 2 (number f) (λ u. last_number Said.pair u fs)

abbrev pub value_form : List (List ℕ) → Result (Said (List ℕ)) ℕ
value_form [] = Err 2
value_form (f ∷ fs) = given 2 (letter f) (λ a. last_number Said.value a fs)

-- by the kind, and the fields after it
abbrev pub form : Kind → List (List ℕ) → Result (Said (List ℕ)) ℕ
form kinds.Mode fs = mode_form fs
form kinds.Premise fs = onto Said.premise (text fs)
form kinds.Assume fs = onto Said.assume (text fs)
form kinds.Step fs = step_form fs
form kinds.Close fs = alone Said.close 2 fs
form kinds.Separator fs = alone Said.separator 2 fs
form kinds.Base fs = onto Said.base (one_number fs)
form kinds.Pair fs = pair_form fs
form kinds.Nucleus fs = onto Said.nucleus (one_number fs)
form kinds.Value fs = value_form fs

-- a kind is one byte
abbrev pub kind_named : List ℕ → Option Kind
kind_named [] = None
kind_named (b ∷ []) = kind_of b
kind_named (b ∷ c ∷ bs) = None

-- the kind of a record, and the fields after it
abbrev pub head_of : List (List ℕ) → Option (Kind × List (List ℕ))
head_of [] = None
head_of (f ∷ fs) = option_map (λ k. (k, fs)) (kind_named f)

-- what the fields of a record say, and the turn after it
abbrev pub entry_form : Format → Turn → List (List ℕ) → Result (Said (List ℕ) × Turn) ℕ
entry_form format turn fs = given 1 (head_of fs) (λ h. given 1 (follow format turn h.0) (λ next. onto (λ x. (x, next)) (form h.0 h.1)))

-- a record that nothing ends is wrong at its last field
abbrev pub record_form : Format → Turn → Piece → Result (Said (List ℕ) × Turn) ℕ
record_form format turn (s, true) = entry_form format turn (fields s)
record_form format turn (s, false) = Err (length (fields s))
