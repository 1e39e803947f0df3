-- An input says one thing, in the turns of its format.
use Rattle.std.specs.Prelude.{◌≡◌, ℕ, List, None, Option}
use Rattle.grammar.specs.Contents.{Once}
use Rattle.grammar.specs.Formula.{Formula}
use Rattle.answers.specs.declared.fault.Fault.{Fault}
use Rattle.entries.specs.Entries.{Said}
use Rattle.entries.specs.InTurn.{InTurn}
use Rattle.entries.specs.declared.turn.Format.{Format}
use Rattle.entries.specs.declared.turn.Turn.TheVariants.{Start}
use Rattle.readings.specs.Reading.{InputSays}

abbrev pub SameReading : List Formula → List Formula → List (Said ℕ) → List (Said ℕ) → Option Fault → Option Fault → Type 0
SameReading gs hs xs ys a b = (gs ≡ hs) × (xs ≡ ys) × (a ≡ b)

-- into a store that holds each formula once, an input says no two things, has no two first faults, and leaves no two stores
abbrev pub OneReading : Type 0
OneReading =
    (capacity : ℕ) (format : Format) (s : List ℕ) (fs gs hs : List Formula) (xs ys : List (Said ℕ)) (a b : Option Fault)
    → Once fs → InputSays capacity format s fs gs xs a → InputSays capacity format s fs hs ys b → SameReading gs hs xs ys a b

-- what an input says, where it has no fault, comes in its turns
abbrev pub AllInTurn : Type 0
AllInTurn =
    (capacity : ℕ) (format : Format) (s : List ℕ) (fs gs : List Formula) (xs : List (Said ℕ))
    → InputSays capacity format s fs gs xs None → InTurn format Start xs
