-- What entries and a file settle: no two files are written alike, no file has two algebras or two faults, or a fault and letters with members, and so there is one answer.
use Rattle.std.specs.Prelude.{◌≡◌, ℕ, List, Result}
use Rattle.answers.specs.declared.unanswered.Unanswered.{Unanswered}
use Rattle.entries.specs.Entries.{Said}
use Rattle.grammar.specs.Formula.{Formula}
use Rattle.heyting.specs.Meaning.{Meaning}
use Rattle.heyting.specs.Values.{ByMembers}
use Rattle.heyting.specs.declared.refusal.Refusal.{Refusal}
use Rattle.ledger.specs.declared.sequent.Sequent.{Sequent}
use Rattle.verdicts.specs.declared.verdict.Verdict.{Verdict}
use Rattle.algebra_files.specs.Faults.{FileFault}
use Rattle.entries.specs.AlgebraFiles.{File, written}
use Rattle.algebra_files.specs.Meant.{Means, Elements}
use Rattle.algebra_files.specs.Outcomes.{Outcome, WeighedInFile}

pub record Settled : Type 0 where
  pub one_file : (f g : File) → written f ≡ written g → f ≡ g
  pub one_algebra : (f : File) (m k : Meaning) → Means f m → Means f k → m ≡ k
  pub one_fault : (first : ℕ) (f : File) (n k : ℕ) (r q : Refusal) → FileFault first f n r → FileFault first f k q → (n ≡ k) × (r ≡ q)
  pub not_both :
      (first : ℕ) (f : File) (m : Meaning) (v : List ℕ) (n : ℕ) (r : Refusal) → Means f m → Elements m.bottom f.values v → ByMembers m v
      → FileFault first f n r → ⊥
  -- a file has one answer at most
  pub one_answer :
      (first : ℕ) (f : File) (fs : List Formula) (s : Sequent) (before a b : List ℕ) (r q : Result Verdict Unanswered)
      → Outcome (Means f) (FileFault first f) fs f.values s before a r → Outcome (Means f) (FileFault first f) fs f.values s before b q
      → (r ≡ q) × (a ≡ b)
  -- entries have one answer at most, whether a file's or not
  pub one_weighing :
      (first : ℕ) (xs : List (Said ℕ)) (fs : List Formula) (s : Sequent) (before a b : List ℕ) (r q : Result Verdict Unanswered)
      → WeighedInFile first xs fs s before a r → WeighedInFile first xs fs s before b q → (r ≡ q) × (a ≡ b)
