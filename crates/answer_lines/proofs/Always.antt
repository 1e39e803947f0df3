-- With slices that are long enough there is a line.
use Rattle.std.proofs.Common.{◌≡◌, ℕ, ◌≤◌, List, length, Ok, Err, Result, IsOk, refl, sym, arith}
use Rattle.grammar.specs.Formula.{Formula}
use Rattle.formulas.specs.Stores.{contents, capacity, OthersStay}
use Rattle.formulas.specs.declared.store.Store.{Store}
use Rattle.formulas.proofs.Stores.{count_is_used}
use Rattle.heyting.specs.Meaning.{Meaning}
use Rattle.heyting.specs.declared.refusal.Refusal.{Refusal}
use Rattle.ledger.specs.declared.line.Line.{Line}
use Rattle.ledger.specs.declared.sequent.Sequent.{Sequent}
use Rattle.records.specs.Pieces.{records}
use Rattle.entries.specs.declared.entry.Entry.{Entry}
use Rattle.verdicts.specs.declared.verdict.Verdict.{Verdict}
use Rattle.answers.specs.Rows.{checked_row, verdict_row, fault_row}
use Rattle.answers.specs.declared.checked.Checked.{Checked}
use Rattle.answers.specs.declared.fault.Fault.{Fault}
use Rattle.answers.specs.declared.unanswered.Unanswered.{Unanswered}
use Rattle.answers.specs.declared.unanswered.Unanswered.TheVariants as answers
use Rattle.checking.specs.Checking.{answered, ChecksInput}
use Rattle.algebra_files.specs.Outcomes.{Stopped, Outcome}
use Rattle.weighing_files.specs.Weighing.{WeighsInput}
use Rattle.answer_lines.specs.Lines.{LinePrinted, UnansweredPrinted, CheckedPrinted, VerdictPrinted}
use Rattle.answer_lines.specs.declared.unprinted.Unprinted.{Unprinted}
use Rattle.answer_lines.specs.declared.unprinted.Unprinted.TheVariants.{ShortEntries, ShortValues, ShortBuffer}

-- an answer for which neither entries nor values are too few
pub record Enough {A : Type 0} (a : Result A Unanswered) : Type 0 where
  pub entries : a ≡ Err answers.ShortEntries → ⊥
  pub values : a ≡ Err answers.ShortValues → ⊥

module _ (before after : List ℕ) (r : Result ℕ Unprinted) (room : r ≡ Err ShortBuffer → ⊥) where
  line_always : (line : List ℕ) (q : Result ℕ Unprinted) → q ≡ r → LinePrinted line before after q → IsOk q
  line_always line (Ok n) same printed = refl
  line_always line (Err ShortEntries) same printed = absurd printed
  line_always line (Err ShortValues) same printed = absurd printed
  line_always line (Err ShortBuffer) same printed = absurd (room (sym same))

  unanswered_always : (why : Unanswered) → Enough {A = Checked} (Err why) → UnansweredPrinted why before after r → IsOk r
  unanswered_always answers.ShortEntries enough printed = absurd (enough.entries refl)
  unanswered_always answers.ShortValues enough printed = absurd (enough.values refl)
  unanswered_always answers.NotStored enough printed = absurd printed
  unanswered_always (answers.Faulty fault) enough printed = line_always (fault_row fault) r refl printed

  pub checked_always : (fs : List Formula) (a : Result Checked Unanswered) → Enough a → CheckedPrinted fs a before after r → IsOk r
  checked_always fs (Ok c) enough printed = line_always (checked_row fs c) r refl printed
  checked_always fs (Err why) enough printed = unanswered_always why enough printed

  pub verdict_always : (a : Result Verdict Unanswered) → Enough a → VerdictPrinted a before after r → IsOk r
  verdict_always (Ok verdict) enough printed = line_always (verdict_row verdict) r refl printed
  verdict_always (Err why) enough printed = unanswered_always why (record { entries = λ e. enough.entries (cc); values = λ e. enough.values (cc) }) printed

answered_enough : (r : Result Checked Fault) → Enough (answered r)
answered_enough (Ok c) = record { entries = λ e. cc; values = λ e. cc }
answered_enough (Err fault) = record { entries = λ e. cc; values = λ e. cc }

pub checks_enough : {n : ℕ} {s : List ℕ} {fs gs : List Formula} {es es_then : List (Entry ℕ)} {ls ls_then : List Line} {a : Result Checked Unanswered}
    → ChecksInput n s fs gs es es_then ls ls_then a → length (records s) ≤ length es → Enough a
checks_enough (ChecksInput.no_room none same) room = absurd (omega (arith, none.many, room))
checks_enough (ChecksInput.not_read xs fault says same) room = record { entries = λ e. cc; values = λ e. cc }
checks_enough (ChecksInput.read xs r says derives) room = answered_enough r

stopped_enough : {M : Meaning → Type 0} {F : ℕ → Refusal → Type 0} {fs : List Formula} {s : Sequent} {buffer : List ℕ} (why : Unanswered)
    → Stopped M F fs s buffer why → length fs ≤ length buffer → Enough {A = Verdict} (Err why)
stopped_enough why (Stopped.unstored m meant not) room = record { entries = λ e. cc; values = λ e. cc }
stopped_enough why (Stopped.short m meant stored few) room = absurd (omega (arith, few, room))
stopped_enough why (Stopped.faulty n refusal fault late) room = record { entries = λ e. cc; values = λ e. cc }

outcome_enough : (M : Meaning → Type 0) (F : ℕ → Refusal → Type 0) (fs : List Formula) (vs : List (ℕ × ℕ)) (s : Sequent) (before after : List ℕ) (r : Result Verdict Unanswered)
    → Outcome M F fs vs s before after r → length fs ≤ length before → Enough r
outcome_enough M F fs vs s before after (Ok verdict) outcome room = record { entries = λ e. cc; values = λ e. cc }
outcome_enough M F fs vs s before after (Err why) outcome room = stopped_enough why outcome.0 room

pub weighs_enough : {n : ℕ} {s : List ℕ} {fs gs : List Formula} {es es_then : List (Entry ℕ)} {ls ls_then : List Line} {vs vs_then : List ℕ} {a : Result Verdict Unanswered}
    → WeighsInput n s fs gs es es_then ls ls_then vs vs_then a → length (records s) ≤ length es → length gs ≤ length vs → Enough a
weighs_enough (WeighsInput.no_room none same also) room values = absurd (omega (arith, none.many, room))
weighs_enough (WeighsInput.not_read xs fault says same also) room values = record { entries = λ e. cc; values = λ e. cc }
weighs_enough (WeighsInput.not_derived xs fault says derives same) room values = record { entries = λ e. cc; values = λ e. cc }
weighs_enough (WeighsInput.derived xs c f r says derives written outcome) room values = outcome_enough _ _ _ _ _ _ _ r outcome values

-- a store holds no more than its capacity, which is what it was
pub held : (before after : Store) → OthersStay before after → length (contents after) ≤ capacity before
held before after stay = omega (arith, count_is_used after, after.within, after.nodes.ok.0, after.most, stay.long)
