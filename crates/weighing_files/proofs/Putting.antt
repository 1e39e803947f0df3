-- Reading, deriving and weighing, put together.
use Rattle.std.proofs.Common.{◌≡◌, ℕ, ◌+◌, List, map, length, take, None, Ok, Err, Result, refl, sym, ap, ◌∙◌, subst}
use Rattle.std.proofs.lemmas.List.{length-map}
use Rattle.grammar.specs.Contents.{Once}
use Rattle.grammar.specs.Formula.{Formula}
use Rattle.ledger.specs.declared.line.Line.{Line}
use Rattle.entries.specs.Entries.{Said, stored}
use Rattle.entries.specs.declared.entry.Entry.{Entry}
use Rattle.entries.proofs.Places.{settled as turns}
use Rattle.entries.specs.InTurn.{InTurn}
use Rattle.entries.specs.declared.turn.Format.TheVariants.{Weighing}
use Rattle.entries.specs.declared.turn.Turn.TheVariants.{Start, Parted}
use Rattle.answers.specs.declared.checked.Checked.{Checked}
use Rattle.answers.specs.declared.fault.Fault.{Fault}
use Rattle.answers.specs.declared.unanswered.Unanswered.{Unanswered}
use Rattle.answers.specs.declared.unanswered.Unanswered.TheVariants.{ShortEntries, NotStored, ShortValues, Faulty}
use Rattle.readings.specs.Answers.{InputRead}
use Rattle.readings.proofs.Turning.{all_in_turn}
use Rattle.scripts.proofs.Showing.{shows}
use Rattle.scripts.specs.Proofs.{mode_of, RecordsShowOn, DerivesRecords}
use Rattle.soundness.specs.Soundness.{Entails}
use Rattle.verdicts.specs.Weighing.{premises_of, conclusion_of, Confirms}
use Rattle.verdicts.specs.declared.verdict.Verdict.{Verdict}
use Rattle.algebra_files.specs.Faults.{FileFault}
use Rattle.entries.specs.AlgebraFiles.{File, written}
use Rattle.algebra_files.specs.Meant.{Means}
use Rattle.algebra_files.specs.Outcomes.{Outcome, WeighedInFile}
use Rattle.algebra_files.proofs.Agreeing.{settled}
use Rattle.weighing_files.specs.Unique.{Answers}
use Rattle.weighing_files.specs.Weighing.{proof_part, algebra_part, WeighsInput, Confirmed}
use Rattle.weighing_files.proofs.Settling.{one_weighing}
use Rattle.weighing_files.proofs.Tails.{proof_comes, algebra_comes}
use Rattle.weighing_files.proofs.Telling.{always_stored}

module _ (cap : ℕ) (s : List ℕ) (fs gs : List Formula) (es es_then : List (Entry ℕ)) (once : Once fs) where
  the_one :
      (ls ls_then : List Line) (vs vs_then : List ℕ) (r : Result Verdict Unanswered) → WeighsInput cap s fs gs es es_then ls ls_then vs vs_then r → Answers cap s fs gs es es_then ls ls_then vs vs_then r
  the_one ls ls_then vs vs_then r weighs = record { weighs = weighs; only = one_weighing cap s fs gs es es_then ls ls_then vs vs_then r once weighs; stored = always_stored weighs }

  unanswered : (ls : List Line) (vs : List ℕ) (why : Unanswered) → InputRead cap Weighing s fs gs es es_then (Err why) → WeighsInput cap s fs gs es es_then ls ls vs vs (Err why)
  unanswered ls vs ShortEntries none = WeighsInput.no_room none refl refl
  unanswered ls vs NotStored h = absurd h
  unanswered ls vs ShortValues h = absurd h
  unanswered ls vs (Faulty fault) says = WeighsInput.not_read says.0 fault says.1 refl refl

  pub not_read : (ls : List Line) (vs : List ℕ) (why : Unanswered) → InputRead cap Weighing s fs gs es es_then (Err why) → Answers cap s fs gs es es_then ls ls vs vs (Err why)
  not_read ls vs why read = the_one ls ls vs vs (Err why) (unanswered ls vs why read)

  -- the records that were read, and those of them that are the proof file's and the algebra file's
  module _ (n : ℕ) (says : InputRead cap Weighing s fs gs es es_then (Ok n)) (proof algebra : List (Entry ℕ)) (ls ls_then : List Line)
      (proof_is : map stored proof ≡ proof_part (map stored (take n es_then))) (algebra_is : map stored algebra ≡ algebra_part (map stored (take n es_then))) where
    abbrev xs : List (Said ℕ)
    xs = says.0

    said : map stored (take n es_then) ≡ xs
    said = ap (λ k. map stored (take k es_then)) says.2 ∙ says.1.kept.said

    proof_said : map stored proof ≡ proof_part xs
    proof_said = proof_is ∙ ap proof_part said

    algebra_said : map stored algebra ≡ algebra_part xs
    algebra_said = algebra_is ∙ ap algebra_part said

    comes : InTurn Weighing Start xs
    comes = all_in_turn cap Weighing s fs gs xs says.1.says

    derives_said : (r : Result Checked Fault) → DerivesRecords gs ls ls_then (map stored proof) r → RecordsShowOn gs ls ls_then (proof_part xs) r
    derives_said r derives = shows (proof_comes xs comes) (subst (λ ys. DerivesRecords gs ls ls_then ys r) proof_said derives)

    pub not_derived : (vs : List ℕ) (fault : Fault) → DerivesRecords gs ls ls_then (map stored proof) (Err fault) → Answers cap s fs gs es es_then ls ls_then vs vs (Err (Faulty fault))
    not_derived vs fault derives = the_one ls ls_then vs vs (Err (Faulty fault)) (WeighsInput.not_derived xs fault says.1 (derives_said (Err fault) derives) refl)

    module _ (vs vs_then : List ℕ) (c : Checked) (derives : DerivesRecords gs ls ls_then (map stored proof) (Ok c)) (r : Result Verdict Unanswered) where
      weighed_in : (f : File) → map stored algebra ≡ written f → Outcome (Means f) (FileFault (length proof + 2) f) gs f.values c.sequent vs vs_then r → WeighsInput cap s fs gs es es_then ls ls_then vs vs_then r
      weighed_in f is outcome =
          WeighsInput.derived xs c f r says.1 (derives_said (Ok c) derives) (sym algebra_said ∙ is)
          (subst (λ k. Outcome (Means f) (FileFault (k + 2) f) gs f.values c.sequent vs vs_then r) (sym (length-map proof stored) ∙ ap length proof_said) outcome)

      weighed : WeighedInFile (length proof + 2) (map stored algebra) gs c.sequent vs vs_then r → WeighsInput cap s fs gs es es_then ls ls_then vs vs_then r
      weighed (WeighedInFile.file f is outcome) = weighed_in f is outcome
      weighed (WeighedInFile.out_of_turn n out is same) =
          let behind : InTurn Weighing Parted (map stored algebra) = subst (InTurn Weighing Parted) (sym algebra_said) (algebra_comes xs comes) in
          absurd (turns.not_both Weighing Parted (map stored algebra) n behind out)

      pub derived : WeighedInFile (length proof + 2) (map stored algebra) gs c.sequent vs vs_then r → Answers cap s fs gs es es_then ls ls_then vs vs_then r
      derived outcome = the_one ls ls_then vs vs_then r (weighed outcome)

      mode_said : c.sequent.mode ≡ mode_of (proof_part xs)
      mode_said = (derives_said (Ok c) derives).1.1.1.mode_is

      confirmed_in :
          (f : File) → map stored algebra ≡ written f → (a : Result Verdict Unanswered) → Outcome (Means f) (FileFault (length proof + 2) f) gs f.values c.sequent vs vs_then a
          → Entails c.sequent.mode (premises_of gs c.sequent) (conclusion_of gs c.sequent) → Confirmed cap s fs a
      confirmed_in f is (Err why) outcome entails = tt
      confirmed_in f is (Ok verdict) outcome entails = λ hs ys g m other also means.
          let same = says.1.only hs ys None other in
          let one_file : f ≡ g = settled.one_file f g (sym is ∙ algebra_said ∙ ap algebra_part same.1 ∙ also) in
          let one_algebra : outcome.algebra ≡ m = settled.one_algebra f outcome.algebra m outcome.meant (subst (λ k. Means k m) (sym one_file) means) in
          let mode : c.sequent.mode ≡ mode_of (proof_part ys) = mode_said ∙ ap (λ zs. mode_of (proof_part zs)) same.1 in
          subst (λ k. Confirms k m verdict) mode (subst (λ k. Confirms c.sequent.mode k verdict) one_algebra (outcome.follows entails))

      pub confirmed :
          WeighedInFile (length proof + 2) (map stored algebra) gs c.sequent vs vs_then r → Entails c.sequent.mode (premises_of gs c.sequent) (conclusion_of gs c.sequent)
          → Confirmed cap s fs r
      confirmed (WeighedInFile.file f is outcome) entails = confirmed_in f is r outcome entails
      confirmed (WeighedInFile.out_of_turn n out is same) entails = subst (λ a. Confirmed cap s fs a) (sym is) tt
