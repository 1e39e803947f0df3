-- A proof file has no two answers.
use Rattle.std.proofs.Common.{Some, None, Ok, Err, Result, map, refl, sym, ap, ◌∙◌, subst, subst₂}
use Rattle.answers.specs.declared.checked.Checked.{Checked}
use Rattle.answers.specs.declared.fault.Fault.{Fault}
use Rattle.answers.specs.declared.unanswered.Unanswered.TheVariants.{Faulty}
use Rattle.readings.proofs.Settling.{says_once, room_or_not, fault_or_none, same_fault, kept_once}
use Rattle.scripts.specs.Proofs.{RecordsShowOn}
use Rattle.scripts.specs.Settled.{SameAnswer}
use Rattle.scripts.proofs.Showing.{shown_once}
use Rattle.entries.specs.Entries.{stored}
use Rattle.readings.specs.Answers.{Kept}
use Rattle.checking.specs.Checking.{answered, ChecksInput}
use Rattle.checking.specs.Unique.{SameChecking, OneAnswer}

same_answered : (a b : Result Checked Fault) → SameAnswer a b → SameChecking (answered a) (answered b)
same_answered (Ok c) (Ok d) same = same
same_answered (Ok c) (Err e) same = same
same_answered (Err e) (Ok d) same = same
same_answered (Err e) (Err d) same = ap (λ x. Faulty x) same

pub one_checking : OneAnswer
one_checking n s fs gs es es_a ls ls_a a once (ChecksInput.no_room none p) hs es_b ls_b b (ChecksInput.no_room also q) = (refl, none.formulas ∙ sym also.formulas, ap (map stored) (none.entries ∙ sym also.entries), p ∙ sym q)
one_checking n s fs gs es es_a ls ls_a a once (ChecksInput.no_room none p) hs es_b ls_b b (ChecksInput.not_read xs fault says q) = absurd (room_or_not none says)
one_checking n s fs gs es es_a ls ls_a a once (ChecksInput.no_room none p) hs es_b ls_b b (ChecksInput.read xs r says q) = absurd (room_or_not none says)
one_checking n s fs gs es es_a ls ls_a a once (ChecksInput.not_read xs fault says p) hs es_b ls_b b (ChecksInput.no_room none q) = absurd (room_or_not none says)
one_checking n s fs gs es es_a ls ls_a a once (ChecksInput.not_read xs fault says p) hs es_b ls_b b (ChecksInput.not_read ys other also q) =
    let same = says.only hs ys (Some other) also.says in
    (ap (λ x. Faulty x) (same_fault same.2), same.0, kept_once says.kept (subst (λ zs. Kept zs es es_b) (sym same.1) also.kept), p ∙ sym q)
one_checking n s fs gs es es_a ls ls_a a once (ChecksInput.not_read xs fault says p) hs es_b ls_b b (ChecksInput.read ys r also q) = absurd (fault_or_none (says.only hs ys None also.says).2)
one_checking n s fs gs es es_a ls ls_a a once (ChecksInput.read xs r says p) hs es_b ls_b b (ChecksInput.no_room none q) = absurd (room_or_not none says)
one_checking n s fs gs es es_a ls ls_a a once (ChecksInput.read xs r says p) hs es_b ls_b b (ChecksInput.not_read ys fault also q) = absurd (fault_or_none (sym (says.only hs ys (Some fault) also.says).2))
one_checking n s fs gs es es_a ls ls_a a once (ChecksInput.read xs r says p) hs es_b ls_b b (ChecksInput.read ys t also q) =
    let same = says.only hs ys None also.says in
    let there : RecordsShowOn gs ls ls_b xs t = subst₂ (λ ks zs. RecordsShowOn ks ls ls_b zs t) (sym same.0) (sym same.1) q in
    let one = shown_once gs (says_once once says.says) xs ls ls_a ls_b r t p there in
    (same_answered r t one.0, same.0, kept_once says.kept (subst (λ zs. Kept zs es es_b) (sym same.1) also.kept), one.1)
