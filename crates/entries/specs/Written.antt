-- How records are written, and what the form of records says of that.
use Rattle.std.specs.Prelude.{◌≡◌, ℕ, ◌+◌, ◌-◌, ◌≤◌, ◌↔◌, List, [], ◌∷◌, ◌++◌, take, length, map, All, Some, Ok, Err, codes}
use Rattle.std.specs.Fmt.{decimal}
use Rattle.fitch.specs.Names.{name_of}
use Rattle.records.specs.Limits.{most_digits}
use Rattle.entries.specs.Entries.{Said}
use Rattle.entries.specs.Forms.{entry_form}
use Rattle.entries.specs.InTurn.{kind_said}
use Rattle.entries.specs.Kinds.{mode_letter}
use Rattle.entries.specs.Turns.{follow}
use Rattle.entries.specs.declared.turn.Format.{Format}
use Rattle.entries.specs.declared.turn.Turn.{Turn}

-- the fields of a record, its kind the first
abbrev pub fields_of : Said (List ℕ) → List (List ℕ)
fields_of (Said.mode m) = codes "M" ∷ mode_letter m ∷ []
fields_of (Said.premise text) = codes "P" ∷ text ∷ []
fields_of (Said.assume text) = codes "A" ∷ text ∷ []
fields_of (Said.step text rule cs) = codes "S" ∷ text ∷ name_of rule ∷ map decimal cs
fields_of Said.close = codes "Z" ∷ []
fields_of Said.separator = codes "=" ∷ []
fields_of (Said.base n) = codes "K" ∷ decimal n ∷ []
fields_of (Said.pair u v) = codes "L" ∷ decimal u ∷ decimal v ∷ []
fields_of (Said.nucleus e) = codes "N" ∷ decimal e ∷ []
fields_of (Said.value letter e) = codes "V" ∷ (letter ∷ []) ∷ decimal e ∷ []

-- a number of at most five digits
abbrev pub Short : ℕ → Type 0
Short n = length (decimal n) ≤ most_digits

-- what has a written form: short numbers, one to three citations, a letter from a to z
abbrev pub InForm : Said (List ℕ) → Type 0
InForm (Said.mode m) = Unit {0}
InForm (Said.premise text) = Unit {0}
InForm (Said.assume text) = Unit {0}
InForm (Said.step text rule cs) = (1 ≤ length cs) × (length cs ≤ 3) × All Short cs
InForm Said.close = Unit {0}
InForm Said.separator = Unit {0}
InForm (Said.base n) = Short n
InForm (Said.pair u v) = Short u × Short v
InForm (Said.nucleus e) = Short e
InForm (Said.value letter e) = (97 ≤ letter) × (letter ≤ 122) × Short e

-- some record that is in form and may come in this turn begins with these fields
abbrev pub Begins : Format → Turn → List (List ℕ) → Type 0
Begins format turn fs =
    (rest : List (List ℕ)) × (x : Said (List ℕ)) × (next : Turn) × (fs ++ rest ≡ fields_of x) × InForm x × (follow format turn (kind_said x) ≡ Some next)

-- what records say, and where they are wrong, by how records are written
pub record RecordsAreWritten : Type 0 where
  -- fields say x just where x is written so, is in form, and may come in this turn
  pub form :
      (fs : List (List ℕ)) (format : Format) (turn next : Turn) (x : Said (List ℕ))
      → (entry_form format turn fs ≡ Ok (x, next)) ↔ ((fs ≡ fields_of x) × InForm x × (follow format turn (kind_said x) ≡ Some next))
  -- field n is the first wrong or missing: some record begins with the fields before it, and none with these and field n
  pub fault :
      (fs : List (List ℕ)) (format : Format) (turn : Turn) (n : ℕ)
      → entry_form format turn fs ≡ Err n
      → (n ≤ length fs + 1) × Begins format turn (take (n - 1) fs) × (n ≤ length fs → Begins format turn (take n fs) → ⊥)
