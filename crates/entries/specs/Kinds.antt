-- The kinds of records, and the names in their fields.
use Rattle.std.specs.Prelude.{ℕ, Bool, ◌==◌, ◌&&◌, nat_le, if◌then◌else◌, List, [], ◌∷◌, length, slice_index, Some, None, Option, codes}
use Rattle.std.specs.Str.{bytes_eq}
use Rattle.fitch.specs.Names.{name_of}
use Rattle.fitch.specs.declared.mode.Mode.{Mode}
use Rattle.fitch.specs.declared.mode.Mode.TheVariants.{Constructive, Classical}
use Rattle.fitch.specs.declared.rule.Rule.{Rule}
use Rattle.fitch.specs.declared.rule.Rule.TheVariants as rules
use Rattle.entries.specs.declared.kind.Kind.{Kind}
use Rattle.entries.specs.declared.kind.Kind.TheVariants as kinds

abbrev pub byte_of : Kind → ℕ
byte_of kinds.Mode = 77
byte_of kinds.Premise = 80
byte_of kinds.Assume = 65
byte_of kinds.Step = 83
byte_of kinds.Close = 90
byte_of kinds.Separator = 61
byte_of kinds.Base = 75
byte_of kinds.Pair = 76
byte_of kinds.Nucleus = 78
byte_of kinds.Value = 86

-- the first of some things to which a test is true
abbrev pub found : {A : Type 0} → (A → Bool) → List A → Option A
found test [] = None
found test (x ∷ xs) = if test x then Some x else found test xs

abbrev pub all_kinds : List Kind
all_kinds = kinds.Mode ∷ kinds.Premise ∷ kinds.Assume ∷ kinds.Step ∷ kinds.Close ∷ kinds.Separator ∷ kinds.Base ∷ kinds.Pair ∷ kinds.Nucleus ∷ kinds.Value ∷ []

abbrev pub kind_of : ℕ → Option Kind
kind_of b = found (λ k. byte_of k == b) all_kinds

abbrev pub all_rules : List Rule
all_rules =
    rules.Reiterate ∷ rules.AndIntro ∷ rules.AndLeft ∷ rules.AndRight ∷ rules.OrLeft ∷ rules.OrRight ∷ rules.OrElim ∷ rules.ImpIntro ∷ rules.ImpElim ∷ rules.ExFalso
    ∷ rules.Reductio
    ∷ []

abbrev pub rule_named : List ℕ → Option Rule
rule_named s = found (λ r. bytes_eq (name_of r) s) all_rules

-- the letter that stands for a mode
abbrev pub mode_letter : Mode → List ℕ
mode_letter Constructive = codes "I"
mode_letter Classical = codes "C"

abbrev pub mode_named : List ℕ → Option Mode
mode_named s = found (λ m. bytes_eq (mode_letter m) s) (Constructive ∷ Classical ∷ [])

-- a letter from a to z, by its byte
abbrev pub letter : List ℕ → Option ℕ
letter s = if length s == 1 && nat_le 97 (slice_index s 0) && nat_le (slice_index s 0) 122 then Some (slice_index s 0) else None
