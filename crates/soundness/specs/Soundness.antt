-- What a derivation says in every algebra.
use Rattle.std.specs.Prelude.{◌≡◌, ℕ, List, Some}
use Rattle.grammar.specs.Formula.{Formula}
use Rattle.heyting.specs.Meaning.{Meaning, Below, Lawful, Boolean, negation}
use Rattle.heyting.specs.Layers.{regular}
use Rattle.heyting.specs.Values.{value, meet_all, ByMembers}
use Rattle.fitch.specs.History.{History, Line, Written, line_at, in_force, premises}
use Rattle.fitch.specs.Exact.{Concludes}
use Rattle.fitch.specs.declared.mode.Mode.{Mode}
use Rattle.fitch.specs.declared.mode.Mode.TheVariants.{Constructive, Classical}

-- what a line claims of its value a: constructively a itself, classically the double negation of a
abbrev pub claim : Mode → Meaning → ℕ → ℕ
claim Constructive m a = a
claim Classical m a = negation m (negation m a)

-- in every lawful algebra, under every valuation by members, the meet of As lies below what A claims
abbrev pub Entails : Mode → List Formula → Formula → Type 0
Entails mode As A = (m : Meaning) → Lawful m → (v : List ℕ) → ByMembers m v → Below m (meet_all m v As) (claim mode m (value m v A))

-- at every line the formulas in force entail the line's formula
abbrev pub Sound : Mode → History → Type 0
Sound mode h = (i : ℕ) (l : Line) → line_at h i ≡ Some l → Entails mode (in_force h l) l.formula

-- at every line of a constructive derivation, the meet of the formulas in force lies below the line's value
abbrev pub ConstructiveSound : Type 0
ConstructiveSound =
    (h : History) → Written Constructive h → (i : ℕ) (l : Line) → line_at h i ≡ Some l
    → (m : Meaning) → Lawful m → (v : List ℕ) → ByMembers m v
    → Below m (meet_all m v (in_force h l)) (value m v l.formula)

-- at every line of a classical derivation, the meet of the formulas in force lies below the double negation of the line's value
abbrev pub ClassicalSound : Type 0
ClassicalSound =
    (h : History) → Written Classical h → (i : ℕ) (l : Line) → line_at h i ≡ Some l
    → (m : Meaning) → Lawful m → (v : List ℕ) → ByMembers m v
    → Below m (meet_all m v (in_force h l)) (negation m (negation m (value m v l.formula)))

-- at every line of a classical derivation, in every Boolean algebra, the meet of the formulas in force lies below the line's value
abbrev pub ClassicalInBoolean : Type 0
ClassicalInBoolean =
    (h : History) → Written Classical h → (i : ℕ) (l : Line) → line_at h i ≡ Some l
    → (m : Meaning) → Lawful m → Boolean m → (v : List ℕ) → ByMembers m v
    → Below m (meet_all m v (in_force h l)) (value m v l.formula)

-- at every line of a classical derivation, in every double-negation layer, the meet of the formulas in force lies below the line's value
abbrev pub ClassicalInLayers : Type 0
ClassicalInLayers =
    (h : History) → Written Classical h → (i : ℕ) (l : Line) → line_at h i ≡ Some l
    → (m : Meaning) → Lawful m → (v : List ℕ) → ByMembers (regular m) v
    → Below (regular m) (meet_all (regular m) v (in_force h l)) (value (regular m) v l.formula)

-- the last line that no box contains follows from the premises
abbrev pub ConclusionsFollow : Type 0
ConclusionsFollow = (mode : Mode) (h : History) (A : Formula) → Written mode h → Concludes h A → Entails mode (premises h) A
