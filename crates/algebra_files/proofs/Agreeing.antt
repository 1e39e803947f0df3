-- Entries get one answer.
use Rattle.std.proofs.Common.{◌≡◌, ℕ, ◌<◌, ◌≤◌, List, length, Ok, Err, Result, Decides, refl, sym, ap, ◌∙◌, subst, arith}
use Rattle.std.proofs.lemmas.Bool.Decides.{same_from_decides}
use Rattle.answers.specs.declared.fault.Fault.TheVariants as faults
use Rattle.answers.specs.declared.fault.Reason.TheVariants.{Form, Algebra}
use Rattle.answers.specs.declared.unanswered.Unanswered.{Unanswered}
use Rattle.answers.specs.declared.unanswered.Unanswered.TheVariants.{Faulty}
use Rattle.entries.proofs.Places.{settled as turns}
use Rattle.entries.proofs.Turning.{turns_of_files}
use Rattle.entries.specs.Entries.{Said}
use Rattle.entries.specs.InTurn.{OutOfTurn}
use Rattle.entries.specs.declared.turn.Format.TheVariants.{Weighing}
use Rattle.entries.specs.declared.turn.Turn.TheVariants.{Parted}
use Rattle.grammar.specs.Formula.{Formula}
use Rattle.heyting.specs.Meaning.{Meaning, Below}
use Rattle.heyting.specs.declared.refusal.Refusal.{Refusal}
use Rattle.heyting.specs.declared.refusal.Refusal.TheVariants.{LetterNotMember}
use Rattle.ledger.specs.declared.sequent.Sequent.{Sequent}
use Rattle.verdicts.specs.Weighing.{Stored, Weighed, Weighs}
use Rattle.verdicts.specs.declared.verdict.Verdict.{Verdict}
use Rattle.algebra_files.specs.Faults.{record_at, FileFault}
use Rattle.entries.specs.AlgebraFiles.{File, written}
use Rattle.algebra_files.specs.Meant.{Means, Elements}
use Rattle.algebra_files.specs.Outcomes.{Verdicted, Stopped, Outcome, WeighedInFile}
use Rattle.algebra_files.specs.Theorems.{Settled}
use Rattle.algebra_files.proofs.Settling.{elements_one, one_file_lem, one_algebra_lem, one_fault_at, letter_only, no_fault}

same_verdict : (m : Meaning) (fs : List Formula) (v : List ℕ) (s : Sequent) (x y : Verdict) → Weighs m fs v s x → Weighs m fs v s y → x ≡ y
same_verdict m fs v s x y p q =
    let meet : x.meet ≡ y.meet = p.meet ∙ sym q.meet in
    let conclusion : x.conclusion ≡ y.conclusion = p.conclusion ∙ sym q.conclusion in
    let below : Decides x.holds (Below m y.meet y.conclusion) = subst (λ c. Decides x.holds (Below m y.meet c)) conclusion (subst (λ a. Decides x.holds (Below m a x.conclusion)) meet p.holds) in
    let holds : x.holds ≡ y.holds = same_from_decides x.holds y.holds below q.holds in
    ap (λ a. record { meet = a; conclusion = x.conclusion; holds = x.holds }) meet
    ∙ (ap (λ c. record { meet = y.meet; conclusion = c; holds = x.holds }) conclusion ∙ ap (λ h. record { meet = y.meet; conclusion = y.conclusion; holds = h }) holds)

module _ (first : ℕ) (f : File) (fs : List Formula) (s : Sequent) (before : List ℕ) where
  abbrev Answers : List ℕ → Result Verdict Unanswered → Type 0
  Answers after r = Outcome (Means f) (FileFault first f) fs f.values s before after r

  abbrev Verdicts : List ℕ → Verdict → Type 0
  Verdicts after x = Verdicted (Means f) fs f.values s before after x

  abbrev Stops : Unanswered → Type 0
  Stops why = Stopped (Means f) (FileFault first f) fs s before why

  verdicts_agree : (a b : List ℕ) (x y : Verdict) → Verdicts a x → Verdicts b y → (x ≡ y) × (a ≡ b)
  verdicts_agree a b x y p q =
      let same : p.algebra ≡ q.algebra = one_algebra_lem f p.algebra q.algebra p.meant q.meant in
      let elements : Elements q.algebra.bottom f.values p.letters = subst (λ m. Elements m.bottom f.values p.letters) same p.elements in
      let letters : p.letters ≡ q.letters = elements_one q.algebra.bottom f.values p.letters q.letters elements q.elements in
      let weighed : Weighed q.algebra fs q.letters s before a (Ok x) =
      subst (λ v. Weighed q.algebra fs v s before a (Ok x)) letters (subst (λ m. Weighed m fs p.letters s before a (Ok x)) same p.weighed) in
      (same_verdict q.algebra fs q.letters s x y weighed.2 q.weighed.2, weighed.1.2 ∙ sym q.weighed.1.2)

  not_stopped : (a : List ℕ) (x : Verdict) (why : Unanswered) → Verdicts a x → Stops why → ⊥
  not_stopped a x why p (Stopped.unstored m is out) = out p.weighed.0
  not_stopped a x why p (Stopped.short m is stored short) = let room = p.weighed.1.0 in omega (arith, short, room)
  not_stopped a x why p (Stopped.faulty n refusal fault reached) = no_fault first f p.algebra p.letters n refusal p.meant p.elements p.weighed.1.1 fault

  -- where an algebra is meant a fault is one of a letter, and comes late
  late :
      (m : Meaning) (n : ℕ) (refusal : Refusal) → Means f m → FileFault first f n refusal → ((letter : ℕ) → refusal ≡ LetterNotMember letter → Stored fs s × (length fs ≤ length before))
      → Stored fs s × (length fs ≤ length before)
  late m n refusal is fault reached = let letter = letter_only first f m n refusal is fault in reached letter.0 letter.1

  too_short : length before < length fs → length fs ≤ length before → ⊥
  too_short short room = omega (arith, short, room)

  stops_agree : (x y : Unanswered) → Stops x → Stops y → x ≡ y
  stops_agree x y (Stopped.unstored m is out) (Stopped.unstored k is_too out_too) = refl
  stops_agree x y (Stopped.unstored m is out) (Stopped.short k is_too stored short) = absurd (out stored)
  stops_agree x y (Stopped.unstored m is out) (Stopped.faulty n refusal fault reached) = absurd (out (late m n refusal is fault reached).0)
  stops_agree x y (Stopped.short m is stored short) (Stopped.unstored k is_too out) = absurd (out stored)
  stops_agree x y (Stopped.short m is stored short) (Stopped.short k is_too stored_too short_too) = refl
  stops_agree x y (Stopped.short m is stored short) (Stopped.faulty n refusal fault reached) = absurd (too_short short (late m n refusal is fault reached).1)
  stops_agree x y (Stopped.faulty n refusal fault reached) (Stopped.unstored m is out) = absurd (out (late m n refusal is fault reached).0)
  stops_agree x y (Stopped.faulty n refusal fault reached) (Stopped.short m is stored short) = absurd (too_short short (late m n refusal is fault reached).1)
  stops_agree x y (Stopped.faulty n r fault reached) (Stopped.faulty k t fault_too reached_too) =
      let e = one_fault_at first f n k r t fault fault_too in
      ap (λ i. Faulty (faults.At i (Algebra r))) e.0 ∙ ap (λ z. Faulty (faults.At k (Algebra z))) e.1

  answers_agree : (a b : List ℕ) (r q : Result Verdict Unanswered) → Answers a r → Answers b q → (r ≡ q) × (a ≡ b)
  answers_agree a b (Ok x) (Ok y) g h = let e = verdicts_agree a b x y g h in (ap (λ v. Ok v) e.0, e.1)
  answers_agree a b (Ok x) (Err why) g h = absurd (not_stopped a x why g h.0)
  answers_agree a b (Err why) (Ok y) g h = absurd (not_stopped b y why h g.0)
  answers_agree a b (Err why) (Err wherefore) g h = (ap (λ x. Err x) (stops_agree why wherefore g.0 h.0), g.1 ∙ sym h.1)

-- a file's records are not out of turn
not_out : {xs : List (Said ℕ)} (f : File) (n : ℕ) → xs ≡ written f → OutOfTurn Weighing Parted xs n → ⊥
not_out {xs} f n is out = turns.not_both Weighing Parted xs n ((turns_of_files.algebra xs).1 (f, is)) out

weighings_agree :
    (first : ℕ) (xs : List (Said ℕ)) (fs : List Formula) (s : Sequent) (before a b : List ℕ) (r q : Result Verdict Unanswered)
    → WeighedInFile first xs fs s before a r → WeighedInFile first xs fs s before b q → (r ≡ q) × (a ≡ b)
weighings_agree first xs fs s before a b r q (WeighedInFile.file f is g) (WeighedInFile.file k is_too h) =
    let same : f ≡ k = one_file_lem f k (sym is ∙ is_too) in
    answers_agree first k fs s before a b r q (subst (λ x. Outcome (Means x) (FileFault first x) fs x.values s before a r) same g) h
weighings_agree first xs fs s before a b r q (WeighedInFile.file f is g) (WeighedInFile.out_of_turn n out refused kept) = absurd (not_out f n is out)
weighings_agree first xs fs s before a b r q (WeighedInFile.out_of_turn n out refused kept) (WeighedInFile.file f is h) = absurd (not_out f n is out)
weighings_agree first xs fs s before a b r q (WeighedInFile.out_of_turn n out refused kept) (WeighedInFile.out_of_turn m out_too refused_too kept_too) =
    let same : n ≡ m = turns.one_place Weighing Parted xs n m out out_too in
    (refused ∙ ap (λ k. Err (Faulty (faults.At (record_at first k) (Form 1)))) same ∙ sym refused_too, kept ∙ sym kept_too)

pub settled : Settled
settled = record {
  one_file = one_file_lem;
  one_algebra = one_algebra_lem;
  one_fault = one_fault_at;
  not_both = no_fault;
  one_answer = answers_agree;
  one_weighing = weighings_agree;
}
