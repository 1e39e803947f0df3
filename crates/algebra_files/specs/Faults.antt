-- The first fault of a file, and its record: bases, product, layer, letters, in this order.
use Rattle.std.specs.Prelude.{◌≡◌, ℕ, ◌+◌, ◌-◌, ◌^◌, List, length, min, Some, Option}
use Rattle.heyting.specs.Evaluating.{FirstStranger}
use Rattle.heyting.specs.Layers.{Pairable}
use Rattle.heyting.specs.Loading.{Loadable, Unloadable}
use Rattle.heyting.specs.Meaning.{Meaning, Member}
use Rattle.heyting.specs.declared.refusal.Refusal.{Refusal}
use Rattle.heyting.specs.declared.refusal.Refusal.TheVariants.{WorldsOutOfRange, NoSuchWorld, SpanTooLarge, NotMember, ShortBuffer, LetterNotMember}
use Rattle.entries.specs.AlgebraFiles.{Base, File, base_said, layer_said, optional}
use Rattle.algebra_files.specs.Meant.{Loads, Founds, Layered, Elements, LastFor}

-- the record so many after another; numbers go no further than those of the machine
abbrev pub record_at : ℕ → ℕ → ℕ
record_at n k = min (n + k) (2 ^ 64 - 1)

-- where the second base stands, or would
abbrev pub second_record : ℕ → File → ℕ
second_record first f = record_at first (length (base_said f.first))

-- where the layer stands, or would
abbrev pub layer_record : ℕ → File → ℕ
layer_record first f = record_at (second_record first f) (length (optional base_said f.second))

-- where the values begin after a layer that stands at a record, or would
abbrev pub values_record : ℕ → Option ℕ → ℕ
values_record n layer = record_at n (length (optional layer_said layer))

-- which record of a base is at fault: that of the base itself, or that of a pair
abbrev pub blamed : Refusal → ℕ
blamed WorldsOutOfRange = 0
blamed (NoSuchWorld pair) = pair
blamed SpanTooLarge = 0
blamed NotMember = 0
blamed ShortBuffer = 0
blamed (LetterNotMember letter) = 0

-- the fault of values from record n on: the first letter with no member, counted from 1, at its last value
pub data LetterFault (m : Meaning) (vs : List (ℕ × ℕ)) (n : ℕ) : ℕ → Refusal → Type 0 where
  stranger :
      (v : List ℕ) (letter k : ℕ) → Elements m.bottom vs v → FirstStranger m v letter → LastFor vs (96 + letter) k
      → LetterFault m vs n (record_at n k) (LetterNotMember letter)

-- the fault of a layer at record n and of the values after it
pub data LayerFault (below : Meaning) (layer : Option ℕ) (vs : List (ℕ × ℕ)) (n : ℕ) : ℕ → Refusal → Type 0 where
  stranger : (e : ℕ) → layer ≡ Some e → (Member below e → ⊥) → LayerFault below layer vs n n NotMember
  letter : (m : Meaning) (r : ℕ) (refusal : Refusal) → Layered below layer m → LetterFault m vs (values_record n layer) r refusal → LayerFault below layer vs n r refusal

-- the fault of a file whose entries are records from `first` on
pub data FileFault (first : ℕ) (f : File) : ℕ → Refusal → Type 0 where
  first_base : (refusal : Refusal) → Unloadable f.first.worlds f.first.pairs refusal → FileFault first f (record_at first (blamed refusal)) refusal
  second_base :
      (b : Base) (refusal : Refusal) → Loadable f.first.worlds f.first.pairs → f.second ≡ Some b → Unloadable b.worlds b.pairs refusal
      → FileFault first f (record_at (second_record first f) (blamed refusal)) refusal
  too_large :
      (b : Base) (m n : Meaning) → Loads f.first m → f.second ≡ Some b → Loads b n → (Pairable m n → ⊥)
      → FileFault first f (second_record first f) SpanTooLarge
  above :
      (m : Meaning) (r : ℕ) (refusal : Refusal) → Founds f.first f.second m → LayerFault m f.layer f.values (layer_record first f) r refusal
      → FileFault first f r refusal
