-- What is answered to entries, by whether a file is read from them.
use Rattle.std.proofs.Common.{◌≡◌, ℕ, List, Some, None, Ok, Err, Option, Result, MatchOption, sym, ap, ◌∙◌}
use Rattle.std.specs.Option.{unwrap_or}
use Rattle.answers.specs.declared.fault.Fault.TheVariants as faults
use Rattle.answers.specs.declared.fault.Reason.TheVariants.{Form}
use Rattle.answers.specs.declared.unanswered.Unanswered.{Unanswered}
use Rattle.answers.specs.declared.unanswered.Unanswered.TheVariants.{Faulty}
use Rattle.entries.proofs.Turning.{turns_of_files}
use Rattle.entries.specs.Entries.{Said}
use Rattle.entries.specs.InTurn.{InTurn, OutOfTurn}
use Rattle.entries.specs.declared.turn.Format.TheVariants.{Weighing}
use Rattle.entries.specs.declared.turn.Turn.TheVariants.{Parted}
use Rattle.grammar.specs.Formula.{Formula}
use Rattle.ledger.specs.declared.sequent.Sequent.{Sequent}
use Rattle.verdicts.specs.declared.verdict.Verdict.{Verdict}
use Rattle.algebra_files.specs.Faults.{record_at, FileFault}
use Rattle.entries.specs.AlgebraFiles.{File, written}
use Rattle.algebra_files.specs.Meant.{Means}
use Rattle.algebra_files.specs.Outcomes.{Verdicted, Outcome, WeighedInFile}
use Rattle.algebra_files.specs.Reading.{file_in}
use Rattle.algebra_files.proofs.Written.{read_back, read_forth}

no_file : (f : File) (xs : List (Said ℕ)) → None ≡ file_in xs → xs ≡ written f → ⊥
no_file f xs read is = let e : None ≡ Some f = read ∙ (ap file_in is ∙ read_back f) in cc

module _ (first : ℕ) (xs : List (Said ℕ)) (fs : List Formula) (s : Sequent) (before after : List ℕ) where
  pub read : (r : Result Verdict Unanswered) (f : File) → Some f ≡ file_in xs → Outcome (Means f) (FileFault first f) fs f.values s before after r → WeighedInFile first xs fs s before after r
  read r f is h = WeighedInFile.file f (read_forth f xs (sym is)) h

  pub unread :
      (o : Option ℕ) (n k : ℕ) → None ≡ file_in xs → MatchOption o (InTurn Weighing Parted xs) (OutOfTurn Weighing Parted xs) → k ≡ unwrap_or o 0 → n ≡ record_at first k → after ≡ before
      → WeighedInFile first xs fs s before after (Err (Faulty (faults.At n (Form 1))))
  unread None n k is turns there number same = let f = (turns_of_files.algebra xs).0 turns in absurd (no_file f.0 xs is f.1)
  unread (Some m) n k is out there number same =
      WeighedInFile.out_of_turn m out (ap (λ i. Err (Faulty (faults.At i (Form 1)))) (number ∙ ap (record_at first) there)) same

  -- a verdict is one in the algebra of the file that is written so, and confirms in it what is entailed
  pub verdict_in : (verdict : Verdict) → WeighedInFile first xs fs s before after (Ok verdict) → (f : File) × (xs ≡ written f) × Verdicted (Means f) fs f.values s before after verdict
  verdict_in verdict (WeighedInFile.file f is h) = (f, is, h)
  verdict_in verdict (WeighedInFile.out_of_turn n out refused same) = cc
