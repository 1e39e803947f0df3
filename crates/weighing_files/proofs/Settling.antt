-- An input has no two answers.
use Rattle.std.proofs.Common.{◌≡◌, ℕ, ◌+◌, List, length, Some, None, Ok, Err, Result, refl, sym, ap, ◌∙◌, subst, subst₂, map}
use Rattle.grammar.specs.Formula.{Formula}
use Rattle.ledger.specs.declared.line.Line.{Line}
use Rattle.entries.specs.Entries.{Said, stored}
use Rattle.entries.specs.declared.entry.Entry.{Entry}
use Rattle.answers.specs.declared.checked.Checked.{Checked}
use Rattle.answers.specs.declared.fault.Fault.{Fault}
use Rattle.answers.specs.declared.unanswered.Unanswered.{Unanswered}
use Rattle.answers.specs.declared.unanswered.Unanswered.TheVariants.{Faulty}
use Rattle.readings.specs.Answers.{Kept}
use Rattle.readings.proofs.Settling.{kept_once, says_once, room_or_not, fault_or_none, same_fault}
use Rattle.scripts.specs.Proofs.{RecordsShowOn}
use Rattle.scripts.specs.Settled.{SameAnswer}
use Rattle.scripts.proofs.Showing.{shown_once}
use Rattle.grammar.specs.Contents.{Once}
use Rattle.verdicts.specs.declared.verdict.Verdict.{Verdict}
use Rattle.algebra_files.specs.Faults.{FileFault}
use Rattle.entries.specs.AlgebraFiles.{File, written}
use Rattle.algebra_files.specs.Meant.{Means}
use Rattle.algebra_files.specs.Outcomes.{Outcome}
use Rattle.algebra_files.proofs.Agreeing.{settled}
use Rattle.weighing_files.proofs.Alike.{outcome_alike}
use Rattle.weighing_files.specs.Unique.{OneAnswer}
use Rattle.weighing_files.specs.Weighing.{proof_part, algebra_part, WeighsInput}

-- the same records show the same, and leave the same lines
one_shown :
    {gs hs : List Formula} {xs ys : List (Said ℕ)} (ls ls_a ls_b : List Line) (a b : Result Checked Fault)
    → Once gs → gs ≡ hs → xs ≡ ys → RecordsShowOn gs ls ls_a (proof_part xs) a → RecordsShowOn hs ls ls_b (proof_part ys) b → SameAnswer a b × (ls_a ≡ ls_b)
one_shown {gs} {xs = xs} ls ls_a ls_b a b once stores records p q =
    let there : RecordsShowOn gs ls ls_b (proof_part xs) b = subst₂ (λ ks zs. RecordsShowOn ks ls ls_b (proof_part zs) b) (sym stores) (sym records) q in
    shown_once gs once (proof_part xs) ls ls_a ls_b a b p there

abbrev Weighed : List Formula → List (Said ℕ) → File → Checked → List ℕ → List ℕ → Result Verdict Unanswered → Type 0
Weighed gs xs f c values values_then r = Outcome (Means f) (FileFault (length (proof_part xs) + 2) f) gs f.values c.sequent values values_then r

-- the same sequents have the same verdict in one file
one_weighed :
    {gs hs : List Formula} {xs ys : List (Said ℕ)} (f g : File) (c d : Checked) (vs va vb : List ℕ) (r q : Result Verdict Unanswered)
    → gs ≡ hs → xs ≡ ys → algebra_part xs ≡ written f → algebra_part ys ≡ written g → SameAnswer (Ok c) (Ok d) → Weighed gs xs f c vs va r → Weighed hs ys g d vs vb q
    → (r ≡ q) × (va ≡ vb)
one_weighed {gs} {xs = xs} f g c d vs va vb r q stores records is also same p h =
    let n = length (proof_part xs) + 2 in
    let one : g ≡ f = sym (settled.one_file f g (sym is ∙ ap algebra_part records ∙ also)) in
    let at_same : Weighed gs xs g d vs vb q = subst₂ (λ ks zs. Weighed ks zs g d vs vb q) (sym stores) (sym records) h in
    let in_same : Weighed gs xs f d vs vb q = subst (λ k. Weighed gs xs k d vs vb q) one at_same in
    let of_same = outcome_alike d.sequent c.sequent (sym same.mode) (sym same.premises) (sym same.conclusion) gs (Means f) (FileFault n f) f.values vs vb q in_same in
    settled.one_answer n f gs c.sequent vs va vb r q p of_same

-- the same records leave entries that say the same
entered : {xs ys : List (Said ℕ)} {es a b : List (Entry ℕ)} → xs ≡ ys → Kept xs es a → Kept ys es b → map stored a ≡ map stored b
entered {es = es} {b = b} same p q = kept_once p (subst (λ zs. Kept zs es b) (sym same) q)

pub one_weighing : OneAnswer
one_weighing n s fs gs es ea ls la vs va r once (WeighsInput.no_room none p a) hs eb lb vb q (WeighsInput.no_room also t b) = (refl, none.formulas ∙ sym also.formulas, a ∙ sym b, ap (map stored) (none.entries ∙ sym also.entries), p ∙ sym t)
one_weighing n s fs gs es ea ls la vs va r once (WeighsInput.no_room none p a) hs eb lb vb q (WeighsInput.not_read ys fault says t b) = absurd (room_or_not none says)
one_weighing n s fs gs es ea ls la vs va r once (WeighsInput.no_room none p a) hs eb lb vb q (WeighsInput.not_derived ys fault says t b) = absurd (room_or_not none says)
one_weighing n s fs gs es ea ls la vs va r once (WeighsInput.no_room none p a) hs eb lb vb q (WeighsInput.derived ys d g t says shows is b) = absurd (room_or_not none says)
one_weighing n s fs gs es ea ls la vs va r once (WeighsInput.not_read xs fault says p a) hs eb lb vb q (WeighsInput.no_room none t b) = absurd (room_or_not none says)
one_weighing n s fs gs es ea ls la vs va r once (WeighsInput.not_read xs fault says p a) hs eb lb vb q (WeighsInput.not_read ys other also t b) =
    let same = says.only hs ys (Some other) also.says in
    (ap (λ x. Err (Faulty x)) (same_fault same.2), same.0, a ∙ sym b, entered same.1 says.kept also.kept, p ∙ sym t)
one_weighing n s fs gs es ea ls la vs va r once (WeighsInput.not_read xs fault says p a) hs eb lb vb q (WeighsInput.not_derived ys other also t b) = absurd (fault_or_none (says.only hs ys None also.says).2)
one_weighing n s fs gs es ea ls la vs va r once (WeighsInput.not_read xs fault says p a) hs eb lb vb q (WeighsInput.derived ys d g t also shows is b) = absurd (fault_or_none (says.only hs ys None also.says).2)
one_weighing n s fs gs es ea ls la vs va r once (WeighsInput.not_derived xs fault says p a) hs eb lb vb q (WeighsInput.no_room none t b) = absurd (room_or_not none says)
one_weighing n s fs gs es ea ls la vs va r once (WeighsInput.not_derived xs fault says p a) hs eb lb vb q (WeighsInput.not_read ys other also t b) = absurd (fault_or_none (sym (says.only hs ys (Some other) also.says).2))
one_weighing n s fs gs es ea ls la vs va r once (WeighsInput.not_derived xs fault says p a) hs eb lb vb q (WeighsInput.not_derived ys other also t b) =
    let same = says.only hs ys None also.says in
    let one = one_shown ls la lb (Err fault) (Err other) (says_once once says.says) same.0 same.1 p t in
    (ap (λ x. Err (Faulty x)) one.0, same.0, a ∙ sym b, entered same.1 says.kept also.kept, one.1)
one_weighing n s fs gs es ea ls la vs va r once (WeighsInput.not_derived xs fault says p a) hs eb lb vb q (WeighsInput.derived ys d g t also shows is b) =
    let same = says.only hs ys None also.says in
    absurd ((one_shown ls la lb (Err fault) (Ok d) (says_once once says.says) same.0 same.1 p shows).0)
one_weighing n s fs gs es ea ls la vs va r once (WeighsInput.derived xs c f p says shows is a) hs eb lb vb q (WeighsInput.no_room none t b) = absurd (room_or_not none says)
one_weighing n s fs gs es ea ls la vs va r once (WeighsInput.derived xs c f p says shows is a) hs eb lb vb q (WeighsInput.not_read ys other also t b) = absurd (fault_or_none (sym (says.only hs ys (Some other) also.says).2))
one_weighing n s fs gs es ea ls la vs va r once (WeighsInput.derived xs c f p says shows is a) hs eb lb vb q (WeighsInput.not_derived ys other also t b) =
    let same = says.only hs ys None also.says in
    absurd ((one_shown ls la lb (Ok c) (Err other) (says_once once says.says) same.0 same.1 shows t).0)
one_weighing n s fs gs es ea ls la vs va r once (WeighsInput.derived xs c f p says shows is a) hs eb lb vb q (WeighsInput.derived ys d g t also shows_too is_too b) =
    let same = says.only hs ys None also.says in
    let shown = one_shown ls la lb (Ok c) (Ok d) (says_once once says.says) same.0 same.1 shows shows_too in
    let one = one_weighed f g c d vs va vb r q same.0 same.1 is is_too shown.0 a b in
    (one.0, same.0, one.1, entered same.1 says.kept also.kept, shown.1)
