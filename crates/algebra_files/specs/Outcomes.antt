-- What weighing in a file answers.
use Rattle.std.specs.Prelude.{◌≡◌, ℕ, ◌<◌, ◌≤◌, List, length, Ok, Err, Result}
use Rattle.answers.specs.declared.fault.Fault.{Fault}
use Rattle.answers.specs.declared.fault.Fault.TheVariants as faults
use Rattle.answers.specs.declared.fault.Reason.TheVariants.{Form, Algebra}
use Rattle.answers.specs.declared.unanswered.Unanswered.{Unanswered}
use Rattle.answers.specs.declared.unanswered.Unanswered.TheVariants.{NotStored, ShortValues, Faulty}
use Rattle.entries.specs.Entries.{Said}
use Rattle.entries.specs.InTurn.{OutOfTurn}
use Rattle.entries.specs.declared.turn.Format.TheVariants.{Weighing}
use Rattle.entries.specs.declared.turn.Turn.TheVariants.{Parted}
use Rattle.frames.specs.Frames.{frame_means}
use Rattle.frames.specs.declared.frame.Frame.{Frame}
use Rattle.grammar.specs.Formula.{Formula}
use Rattle.heyting.specs.Loading.{Unloadable}
use Rattle.heyting.specs.Meaning.{Meaning}
use Rattle.heyting.specs.declared.refusal.Refusal.{Refusal}
use Rattle.heyting.specs.declared.refusal.Refusal.TheVariants.{LetterNotMember}
use Rattle.ledger.specs.declared.sequent.Sequent.{Sequent}
use Rattle.verdicts.specs.Weighing.{Stored, Weighed, Follows}
use Rattle.verdicts.specs.declared.verdict.Verdict.{Verdict}
use Rattle.algebra_files.specs.Faults.{record_at, blamed, FileFault}
use Rattle.entries.specs.AlgebraFiles.{Base, File, written}
use Rattle.algebra_files.specs.Meant.{Loads, Means, Elements}

-- the frame of a base that stands at a record, or the record at fault
abbrev pub BaseLoaded : Base → ℕ → Result Frame Fault → Type 0
BaseLoaded b n (Ok frame) = Loads b (frame_means frame)
BaseLoaded b n (Err fault) = (refusal : Refusal) × (fault ≡ faults.At (record_at n (blamed refusal)) (Algebra refusal)) × Unloadable b.worlds b.pairs refusal

-- a verdict in an algebra that is meant, under the elements of the letters; what is entailed is confirmed in that algebra
pub record Verdicted (M : Meaning → Type 0) (fs : List Formula) (vs : List (ℕ × ℕ)) (s : Sequent) (before after : List ℕ) (verdict : Verdict) : Type 0 where
  pub algebra : Meaning
  pub meant : M algebra
  pub letters : List ℕ
  pub elements : Elements algebra.bottom vs letters
  pub weighed : Weighed algebra fs letters s before after (Ok verdict)
  pub follows : Follows algebra fs s (Ok verdict)

-- why there is no verdict where M tells what algebra is meant and F which faults may be
-- a letter's fault comes after that of places that are not stored and that of a short buffer, and these after every other
pub data Stopped (M : Meaning → Type 0) (F : ℕ → Refusal → Type 0) (fs : List Formula) (s : Sequent) (buffer : List ℕ) : Unanswered → Type 0 where
  unstored : (m : Meaning) → M m → (Stored fs s → ⊥) → Stopped M F fs s buffer NotStored
  short : (m : Meaning) → M m → Stored fs s → length buffer < length fs → Stopped M F fs s buffer ShortValues
  faulty :
      (n : ℕ) (refusal : Refusal) → F n refusal → ((letter : ℕ) → refusal ≡ LetterNotMember letter → Stored fs s × (length fs ≤ length buffer))
      → Stopped M F fs s buffer (Faulty (faults.At n (Algebra refusal)))

-- the answer where M tells what algebra is meant and F which faults may be: a verdict, or a reason for none and the buffer as it was
abbrev pub Outcome : (Meaning → Type 0) → (ℕ → Refusal → Type 0) → List Formula → List (ℕ × ℕ) → Sequent → List ℕ → List ℕ → Result Verdict Unanswered → Type 0
Outcome M F fs vs s before after (Ok verdict) = Verdicted M fs vs s before after verdict
Outcome M F fs vs s before after (Err why) = Stopped M F fs s before why × (after ≡ before)

-- the answer to entries that are records from `first` on: that in the algebra of their file, or the first record that is out of turn
pub data WeighedInFile (first : ℕ) (xs : List (Said ℕ)) (fs : List Formula) (s : Sequent) (before after : List ℕ) (r : Result Verdict Unanswered) : Type 0 where
  file : (f : File) → xs ≡ written f → Outcome (Means f) (FileFault first f) fs f.values s before after r → WeighedInFile first xs fs s before after r
  out_of_turn :
      (n : ℕ) → OutOfTurn Weighing Parted xs n → r ≡ Err (Faulty (faults.At (record_at first n) (Form 1))) → after ≡ before
      → WeighedInFile first xs fs s before after r
