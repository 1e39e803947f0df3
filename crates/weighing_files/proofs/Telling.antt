-- No input has a sequent that is not stored.
use Rattle.std.proofs.Common.{◌≡◌, ℕ, ◌+◌, List, length, Ok, Err, Result}
use Rattle.grammar.specs.Formula.{Formula}
use Rattle.heyting.specs.Meaning.{Meaning}
use Rattle.heyting.specs.declared.refusal.Refusal.{Refusal}
use Rattle.ledger.specs.declared.line.Line.{Line}
use Rattle.entries.specs.Entries.{Said}
use Rattle.entries.specs.declared.entry.Entry.{Entry}
use Rattle.scripts.specs.Proofs.{RecordsShowOn}
use Rattle.scripts.proofs.Showing.{within_places}
use Rattle.verdicts.specs.Weighing.{Stored}
use Rattle.verdicts.specs.declared.verdict.Verdict.{Verdict}
use Rattle.answers.specs.declared.checked.Checked.{Checked}
use Rattle.answers.specs.declared.unanswered.Unanswered.{Unanswered}
use Rattle.answers.specs.declared.unanswered.Unanswered.TheVariants.{NotStored}
use Rattle.algebra_files.specs.Faults.{FileFault}
use Rattle.algebra_files.specs.Meant.{Means}
use Rattle.algebra_files.specs.Outcomes.{Outcome, Stopped}
use Rattle.weighing_files.specs.Weighing.{proof_part, WeighsInput}

-- what is shown stands at places of the store
pub shown_stored : (gs : List Formula) (ls ls_then : List Line) (xs : List (Said ℕ)) (c : Checked) → RecordsShowOn gs ls ls_then xs (Ok c) → Stored gs c.sequent
shown_stored gs ls ls_then xs c p = record { premises = within_places p.1.1.1; conclusion = p.1.1.1.conclusion_in }

module _ (M : Meaning → Type 0) (F : ℕ → Refusal → Type 0) (vs : List (ℕ × ℕ)) (gs : List Formula) (before after : List ℕ) (c : Checked) (all : Stored gs c.sequent) where
  stopped_stored : (why : Unanswered) → Stopped M F gs c.sequent before why → why ≡ NotStored → ⊥
  stopped_stored why (Stopped.unstored m meant never) is = absurd (never all)
  stopped_stored why (Stopped.short m meant stored less) is = absurd (cc)
  stopped_stored why (Stopped.faulty n refusal fault late) is = absurd (cc)

  outcome_stored : (r : Result Verdict Unanswered) → Outcome M F gs vs c.sequent before after r → r ≡ Err NotStored → ⊥
  outcome_stored (Ok verdict) p is = absurd (cc)
  outcome_stored (Err why) p is = stopped_stored why p.0 (let e : why ≡ NotStored = cc in e)

pub always_stored :
    {n : ℕ} {s : List ℕ} {fs gs : List Formula} {es es_then : List (Entry ℕ)} {ls ls_then : List Line} {vs vs_then : List ℕ} {r : Result Verdict Unanswered}
    → WeighsInput n s fs gs es es_then ls ls_then vs vs_then r → r ≡ Err NotStored → ⊥
always_stored (WeighsInput.no_room none p q) is = absurd (cc)
always_stored (WeighsInput.not_read xs fault says p q) is = absurd (cc)
always_stored (WeighsInput.not_derived xs fault says p q) is = absurd (cc)
always_stored {gs = gs} {ls = ls} {ls_then = ls_then} {vs = vs} {vs_then = vs_then} (WeighsInput.derived xs c f r says shows file outcome) is =
    outcome_stored (Means f) (FileFault (length (proof_part xs) + 2) f) f.values gs vs vs_then c (shown_stored gs ls ls_then (proof_part xs) c shows) r outcome is
