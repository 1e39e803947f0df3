-- What citations stand for, by places.
use Rattle.std.specs.Prelude.{◌≡◌, ℕ, ◌<◌, ◌≤◌, List, length, IfSome, IfOk, Option, Result, MatchOption, MatchResult, slice_index_or}
use Rattle.grammar.specs.Formula.{Formula}
use Rattle.fitch.specs.Exact.{Resolved, Reached, CutOff}
use Rattle.fitch.specs.History.{History}
use Rattle.fitch.specs.Rules.{Cited as Meant}
use Rattle.fitch.specs.declared.refusal.Refusal.{Refusal}
use Rattle.fitch.specs.declared.refusal.Refusal.TheVariants.{NotReachable}
use Rattle.fitch.specs.declared.rule.Kind.{Kind}
use Rattle.fitch.specs.declared.rule.Rule.{Rule}
use Rattle.shapes.specs.Giving.{meaning, Placed}
use Rattle.shapes.specs.declared.cited.Cited.{Cited}
use Rattle.shapes.specs.declared.cited.Cited.TheVariants.{Line as a_line}

-- what citation i of a kind stands for, or none where it stands for nothing reachable
abbrev pub Resolves : List Formula → History → Kind → ℕ → Option Cited → Type 0
Resolves fs h k i r = MatchOption r ((c : Meant) → Resolved h k i c → ⊥) (λ c. Resolved h k i (meaning fs c))

abbrev pub PlacedIn : List Formula → Option Cited → Type 0
PlacedIn fs r = IfSome r (Placed fs)

-- what the citations of a rule stand for
abbrev pub AllResolved : List Formula → History → Rule → List ℕ → List Cited → Type 0
AllResolved fs h r is cs = (j : ℕ) → j < length is → Reached h r is j (meaning fs (slice_index_or cs j (a_line 0)))

abbrev pub AllPlaced : List Formula → ℕ → List Cited → Type 0
AllPlaced fs n cs = (n ≤ length cs) × ((j : ℕ) → j < n → Placed fs (slice_index_or cs j (a_line 0)))

-- what they stand for, or the refusal of the first that stands for nothing reachable
abbrev pub ResolvesAll : List Formula → History → Rule → List ℕ → Result (List Cited) Refusal → Type 0
ResolvesAll fs h r is q = MatchResult q (AllResolved fs h r is) (λ e. (k : ℕ) × (e ≡ NotReachable k) × CutOff h r is k)

abbrev pub AllPlacedIn : List Formula → ℕ → Result (List Cited) Refusal → Type 0
AllPlacedIn fs n q = IfOk q (AllPlaced fs n)
