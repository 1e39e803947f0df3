-- A box ends with the last line written directly in it, and not in a box inside it.
use Rattle.std.specs.Prelude.{◌≡◌, ℕ, ◌<◌, List, [], ◌∷◌, length, ◌≢◌}
use Rattle.grammar.specs.Contents.{formula_at}
use Rattle.grammar.specs.Formula.{Formula, implication}
use Rattle.fitch.specs.Calls.{step_checks}
use Rattle.fitch.specs.Checks.{Accepted, Refused}
use Rattle.fitch.specs.History.{History, begin, assume, close, Permits, Written}
use Rattle.fitch.specs.Refusals.{number_of}
use Rattle.fitch.specs.declared.mode.Mode.{Mode}
use Rattle.fitch.specs.declared.refusal.Refusal.{Refusal}
use Rattle.fitch.specs.declared.rule.Rule.TheVariants.{ImpIntro}

-- assume p, assume q, close, close
abbrev pub nested : Formula → Formula → History
nested p q = close ∷ close ∷ assume q ∷ assume p ∷ begin ∷ []

abbrev pub InnerBox : Type 0
InnerBox =
    (mode : Mode) (p q : Formula) → (p ≢ q)
    → Permits mode (nested p q) (implication p p) ImpIntro (1 ∷ []) × (Permits mode (nested p q) (implication p q) ImpIntro (1 ∷ []) → ⊥)

-- with (p>p) stored at one place and (p>q) at the other, and a record left, >I citing box 1 gives the first, and the second is refused 15
abbrev pub InnerBoxAnswered : Type 0
InnerBoxAnswered =
    (mode : Mode) (p q : Formula) → (p ≢ q) → (fs : List Formula) (slice one other : ℕ) → 2 < slice
    → one < length fs → formula_at fs one ≡ implication p p → other < length fs → formula_at fs other ≡ implication p q
    → Written mode (nested p q)
    × Accepted (step_checks mode fs slice (nested p q) one ImpIntro (1 ∷ []))
    × ((e : Refusal) × Refused (step_checks mode fs slice (nested p q) other ImpIntro (1 ∷ [])) e × (number_of e ≡ 15))
