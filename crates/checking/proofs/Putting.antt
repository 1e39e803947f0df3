-- Reading and deriving, put together.
use Rattle.std.proofs.Common.{ℕ, List, map, take, Ok, Err, Result, refl, ap, ◌∙◌, subst}
use Rattle.grammar.specs.Contents.{Once}
use Rattle.grammar.specs.Formula.{Formula}
use Rattle.ledger.specs.declared.line.Line.{Line}
use Rattle.entries.specs.Entries.{stored}
use Rattle.entries.specs.declared.entry.Entry.{Entry}
use Rattle.entries.specs.declared.turn.Format.TheVariants.{Proof}
use Rattle.answers.specs.declared.checked.Checked.{Checked}
use Rattle.answers.specs.declared.fault.Fault.{Fault}
use Rattle.answers.specs.declared.unanswered.Unanswered.{Unanswered}
use Rattle.answers.specs.declared.unanswered.Unanswered.TheVariants.{ShortEntries, NotStored, ShortValues, Faulty}
use Rattle.readings.specs.Answers.{InputRead}
use Rattle.readings.proofs.Turning.{all_in_turn}
use Rattle.scripts.proofs.Showing.{shows}
use Rattle.scripts.specs.Proofs.{DerivesRecords}
use Rattle.checking.specs.Checking.{answered, ChecksInput}
use Rattle.checking.specs.Unique.{Answers}
use Rattle.checking.proofs.Settling.{one_checking}

module _ (cap : ℕ) (s : List ℕ) (fs gs : List Formula) (es es_then : List (Entry ℕ)) (once : Once fs) where
  the_one : (ls ls_then : List Line) (a : Result Checked Unanswered) → ChecksInput cap s fs gs es es_then ls ls_then a → Answers cap s fs gs es es_then ls ls_then a
  the_one ls ls_then a checks = record { checks = checks; only = one_checking cap s fs gs es es_then ls ls_then a once checks }

  unanswered : (ls : List Line) (why : Unanswered) → InputRead cap Proof s fs gs es es_then (Err why) → ChecksInput cap s fs gs es es_then ls ls (Err why)
  unanswered ls ShortEntries none = ChecksInput.no_room none refl
  unanswered ls NotStored h = absurd h
  unanswered ls ShortValues h = absurd h
  unanswered ls (Faulty fault) says = ChecksInput.not_read says.0 fault says.1 refl

  pub not_read : (ls : List Line) (why : Unanswered) → InputRead cap Proof s fs gs es es_then (Err why) → Answers cap s fs gs es es_then ls ls (Err why)
  not_read ls why read = the_one ls ls (Err why) (unanswered ls why read)

  pub read :
      (ls ls_then : List Line) (n : ℕ) (r : Result Checked Fault) → InputRead cap Proof s fs gs es es_then (Ok n) → DerivesRecords gs ls ls_then (map stored (take n es_then)) r
      → Answers cap s fs gs es es_then ls ls_then (answered r)
  read ls ls_then n r says derives =
      the_one ls ls_then (answered r)
      (ChecksInput.read says.0 r says.1
      (shows (all_in_turn cap Proof s fs gs says.0 says.1.says) (subst (λ xs. DerivesRecords gs ls ls_then xs r) (ap (λ k. map stored (take k es_then)) says.2 ∙ says.1.kept.said) derives)))
