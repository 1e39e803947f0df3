-- What weighing a sequent in an algebra answers.
use Rattle.std.specs.Prelude.{◌≡◌, ℕ, ◌<◌, true, List, map, length, Ok, Err, Decides, fold, Result, slice_index}
use Rattle.grammar.specs.Contents.{formula_at}
use Rattle.grammar.specs.Formula.{Formula}
use Rattle.heyting.specs.Evaluating.{Evaluated, Unevaluated}
use Rattle.heyting.specs.Meaning.{Meaning, Member, Below, Boolean, negation}
use Rattle.heyting.specs.Values.{value, meet_all}
use Rattle.fitch.specs.declared.mode.Mode.{Mode}
use Rattle.fitch.specs.declared.mode.Mode.TheVariants.{Constructive, Classical}
use Rattle.ledger.specs.Sequents.{premise_places}
use Rattle.ledger.specs.declared.sequent.Sequent.{Sequent}
use Rattle.soundness.specs.Soundness.{Entails}
use Rattle.verdicts.specs.declared.refusal.Unweighable.{Unweighable}
use Rattle.verdicts.specs.declared.refusal.Unweighable.TheVariants.{NotStored, NotEvaluated}
use Rattle.verdicts.specs.declared.verdict.Verdict.{Verdict}

-- the premises and the conclusion of a sequent, where fs are stored
abbrev pub premises_of : List Formula → Sequent → List Formula
premises_of fs s = map (formula_at fs) (premise_places s)

abbrev pub conclusion_of : List Formula → Sequent → Formula
conclusion_of fs s = formula_at fs s.conclusion

abbrev pub AllBelow : List ℕ → ℕ → Type 0
AllBelow places count = (k : ℕ) → k < length places → slice_index places k < count

-- the premises and the conclusion of a sequent stand at places of fs
pub record Stored (fs : List Formula) (s : Sequent) : Type 0 where
  pub premises : AllBelow (premise_places s) (length fs)
  pub conclusion : s.conclusion < length fs

-- the verdict on a sequent
pub record Weighs (m : Meaning) (fs : List Formula) (v : List ℕ) (s : Sequent) (verdict : Verdict) : Type 0 where
  pub meet : verdict.meet ≡ meet_all m v (premises_of fs s)
  pub conclusion : verdict.conclusion ≡ value m v (conclusion_of fs s)
  pub holds : Decides verdict.holds (Below m verdict.meet verdict.conclusion)

-- why a sequent is not weighed: a place that holds no formula, or else what evaluating refuses
abbrev pub Unweighed : Meaning → List Formula → List ℕ → Sequent → List ℕ → Unweighable → Type 0
Unweighed m fs v s buffer NotStored = Stored fs s → ⊥
Unweighed m fs v s buffer (NotEvaluated refusal) = Stored fs s × Unevaluated m fs v buffer refusal

-- the buffer as it was and as it is, and the answer: the verdict with every value in the buffer, or a refusal that changes nothing
abbrev pub Weighed : Meaning → List Formula → List ℕ → Sequent → List ℕ → List ℕ → Result Verdict Unweighable → Type 0
Weighed m fs v s before after (Ok verdict) = Stored fs s × Evaluated m fs v before after (Ok tt) × Weighs m fs v s verdict
Weighed m fs v s before after (Err refusal) = Unweighed m fs v s before refusal × (after ≡ before)

-- constructively the verdict holds; classically the meet lies below the double negation of the conclusion's value, and in a Boolean algebra, as a double-negation layer is, the verdict holds
abbrev pub Confirms : Mode → Meaning → Verdict → Type 0
Confirms Constructive m verdict = verdict.holds ≡ true
Confirms Classical m verdict = Below m verdict.meet (negation m (negation m verdict.conclusion)) × (Boolean m → verdict.holds ≡ true)

-- a verdict confirms what the premises entail
abbrev pub Follows : Meaning → List Formula → Sequent → Result Verdict Unweighable → Type 0
Follows m fs s (Ok verdict) = Entails s.mode (premises_of fs s) (conclusion_of fs s) → Confirms s.mode m verdict
Follows m fs s (Err refusal) = Unit {0}

-- places with members for their values
abbrev pub Valued : Meaning → List ℕ → List ℕ → Type 0
Valued m values places = (k : ℕ) → k < length places → (slice_index places k < length values) × Member m (slice_index values (slice_index places k))

-- the meet of the values at places, in their order, from the top on
abbrev pub meet_at : Meaning → List ℕ → List ℕ → ℕ
meet_at m values places = fold (λ a place. m.meet a (slice_index values place)) m.top places
