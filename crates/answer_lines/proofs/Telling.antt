-- Every answer to an input can be told.
use Rattle.std.proofs.Common.{◌≡◌, ℕ, List, Ok, Err, Result, refl}
use Rattle.grammar.specs.Formula.{Formula}
use Rattle.ledger.specs.declared.line.Line.{Line}
use Rattle.entries.specs.Entries.{Said}
use Rattle.entries.specs.declared.entry.Entry.{Entry}
use Rattle.scripts.specs.Proofs.{RecordsShowOn}
use Rattle.verdicts.specs.declared.verdict.Verdict.{Verdict}
use Rattle.answers.specs.declared.checked.Checked.{Checked}
use Rattle.answers.specs.declared.fault.Fault.{Fault}
use Rattle.answers.specs.declared.unanswered.Unanswered.{Unanswered}
use Rattle.answers.specs.declared.unanswered.Unanswered.TheVariants as answers
use Rattle.checking.specs.Checking.{answered, ChecksInput}
use Rattle.weighing_files.proofs.Telling.{shown_stored}
use Rattle.answer_lines.specs.Lines.{CheckedCanBeTold, VerdictCanBeTold}

derived_told : (gs : List Formula) (ls ls_then : List Line) (xs : List (Said ℕ)) (r : Result Checked Fault) → RecordsShowOn gs ls ls_then xs r → CheckedCanBeTold gs (answered r)
derived_told gs ls ls_then xs (Ok c) p = shown_stored gs ls ls_then xs c p
derived_told gs ls ls_then xs (Err fault) p = tt

pub checked_told : {n : ℕ} {s : List ℕ} {fs gs : List Formula} {es es_then : List (Entry ℕ)} {ls ls_then : List Line} {a : Result Checked Unanswered} → ChecksInput n s fs gs es es_then ls ls_then a → CheckedCanBeTold gs a
checked_told (ChecksInput.no_room none same) = tt
checked_told (ChecksInput.not_read xs fault says same) = tt
checked_told {gs = gs} {ls = ls} {ls_then = ls_then} (ChecksInput.read xs r says derives) = derived_told gs ls ls_then xs r derives

pub verdict_told : (r : Result Verdict Unanswered) → (r ≡ Err answers.NotStored → ⊥) → VerdictCanBeTold r
verdict_told (Ok verdict) stored = tt
verdict_told (Err answers.ShortEntries) stored = tt
verdict_told (Err answers.NotStored) stored = absurd (stored refl)
verdict_told (Err answers.ShortValues) stored = tt
verdict_told (Err (answers.Faulty fault)) stored = tt
