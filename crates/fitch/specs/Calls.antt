-- The checks of each call on a derivation, over the formulas fs of its store and a slice of so many line records.
use Rattle.std.specs.Prelude.{◌≡◌, ℕ, ◌<◌, true, false, ◌↔◌, List, [], ◌∷◌, ◌++◌, length, Some}
use Rattle.grammar.specs.Contents.{formula_at}
use Rattle.grammar.specs.Formula.{Formula}
use Rattle.fitch.specs.Checks.{Check, unless, Accepted, OneAnswer}
use Rattle.fitch.specs.Exact.{Missing, NoneMissing, CutOff, NoneCutOff}
use Rattle.fitch.specs.History.{History, Line, premise, assume, step, close, count, boxes, premises, gathering, line_at, Stands, Permits, Accepts}
use Rattle.fitch.specs.Limits.{most_premises, most_lines, most_boxes}
use Rattle.fitch.specs.Rules.{kinds, Serves}
use Rattle.fitch.specs.declared.mode.Mode.{Mode}
use Rattle.fitch.specs.declared.refusal.Refusal.TheVariants.{NotStored, ManyPremises, NoRecord, ManyBoxes, WrongNumber, NoSuchLine, NotReachable, NotOfMode, DoesNotFit, NoOpenBox, BoxOpen, NoTopLine}
use Rattle.fitch.specs.declared.rule.Rule.{Rule}

-- a record is left for one more line
abbrev pub Room : History → ℕ → Type 0
Room h slice = (count h < most_lines) × (count h < slice)

-- every citation names a line
abbrev pub named : History → List ℕ → Check
named h is = record { passes = NoneMissing h is; fails = λ e. (k : ℕ) × (e ≡ NoSuchLine k) × Missing h is k }

-- every citation stands for something reachable of its kind
abbrev pub reached : History → Rule → List ℕ → Check
reached h r is = record { passes = NoneCutOff h r is; fails = λ e. (k : ℕ) × (e ≡ NotReachable k) × CutOff h r is k }

-- the checks of a rule's citations
abbrev pub citation_checks : History → Rule → List ℕ → List Check
citation_checks h r is = unless WrongNumber (length is ≡ length (kinds r)) ∷ named h is ∷ reached h r is ∷ []

abbrev pub premise_checks : List Formula → ℕ → History → ℕ → List Check
premise_checks fs slice h place =
    unless NotStored (place < length fs)
    ∷ unless ManyPremises (length (premises h) < most_premises)
    ∷ unless NoRecord (Room h slice)
    ∷ []

abbrev pub assume_checks : List Formula → ℕ → History → ℕ → List Check
assume_checks fs slice h place =
    unless NotStored (place < length fs)
    ∷ unless ManyBoxes (length (boxes h) < most_boxes)
    ∷ unless NoRecord (Room h slice)
    ∷ []

-- the checks of a rule once its citations are found
abbrev pub rule_checks : Mode → List Formula → ℕ → History → ℕ → Rule → List ℕ → List Check
rule_checks mode fs slice h place r is =
    unless NotOfMode (Serves mode r)
    ∷ unless DoesNotFit (Permits mode h (formula_at fs place) r is)
    ∷ unless NoRecord (Room h slice)
    ∷ []

abbrev pub step_checks : Mode → List Formula → ℕ → History → ℕ → Rule → List ℕ → List Check
step_checks mode fs slice h place r is = unless NotStored (place < length fs) ∷ citation_checks h r is ++ rule_checks mode fs slice h place r is

abbrev pub close_checks : History → List Check
close_checks h = unless NoOpenBox (0 < length (boxes h)) ∷ []

abbrev pub line_checks : History → ℕ → List Check
line_checks h i = unless (NoSuchLine 0) ((l : Line) × (line_at h i ≡ Some l)) ∷ []

abbrev pub sequent_checks : History → List Check
sequent_checks h =
    unless BoxOpen (boxes h ≡ [])
    ∷ unless NoTopLine ((i : ℕ) × (A : Formula) × Stands h i A [])
    ∷ []

-- every call has one answer at most
pub record OneAnswers : Type 0 where
  pub premise : (fs : List Formula) (slice : ℕ) (h : History) (place : ℕ) → OneAnswer (premise_checks fs slice h place)
  pub assume : (fs : List Formula) (slice : ℕ) (h : History) (place : ℕ) → OneAnswer (assume_checks fs slice h place)
  pub step : (mode : Mode) (fs : List Formula) (slice : ℕ) (h : History) (place : ℕ) (r : Rule) (is : List ℕ) → OneAnswer (step_checks mode fs slice h place r is)
  pub close : (h : History) → OneAnswer (close_checks h)
  pub line : (h : History) (i : ℕ) → OneAnswer (line_checks h i)
  pub sequent : (h : History) → OneAnswer (sequent_checks h)

-- a call that writes is accepted exactly where the formula is stored, a record is there, and the history accepts it
pub record AcceptedByHistory (mode : Mode) (fs : List Formula) (slice : ℕ) (h : History) (place : ℕ) : Type 0 where
  pub premise : gathering h ≡ true → Accepted (premise_checks fs slice h place) ↔ ((place < length fs) × (count h < slice) × Accepts mode h (premise (formula_at fs place)))
  pub assume : gathering h ≡ false → Accepted (assume_checks fs slice h place) ↔ ((place < length fs) × (count h < slice) × Accepts mode h (assume (formula_at fs place)))
  pub step : gathering h ≡ false → (r : Rule) (is : List ℕ) → Accepted (step_checks mode fs slice h place r is) ↔ ((place < length fs) × (count h < slice) × Accepts mode h (step (formula_at fs place) r is))
  pub close : gathering h ≡ false → Accepted (close_checks h) ↔ Accepts mode h close

abbrev pub ExactAcceptance : Type 0
ExactAcceptance = (mode : Mode) (fs : List Formula) (slice : ℕ) (h : History) (place : ℕ) → AcceptedByHistory mode fs slice h place
