-- Runs have one end.
use Rattle.std.proofs.Common.{◌≡◌, ℕ, List, [], Some, None, Option, refl, sym, ap, ◌∙◌, subst₂}
use Rattle.grammar.specs.Formula.{Formula}
use Rattle.fitch.specs.Checks.{Check, OneAnswer}
use Rattle.fitch.specs.History.{History}
use Rattle.fitch.specs.declared.mode.Mode.{Mode}
use Rattle.fitch.proofs.Answering.{one_answers}
use Rattle.entries.specs.Entries.{Said}
use Rattle.answers.specs.declared.fault.Fault.{Fault}
use Rattle.scripts.specs.Proofs.{mode_of, GoesOn, RunsAll}
use Rattle.scripts.specs.Runs.{Calls, premise_calls, act_calls, refused_at, Stops, Runs}

no_check : OneAnswer []
no_check = record { apart = λ e p q. q; single = λ e d p q. absurd p }

premise_answers : (fs : List Formula) (slice : ℕ) (h : History) (x : Said ℕ) → OneAnswer ((premise_calls fs slice).checks h x)
premise_answers fs slice h (Said.mode m) = no_check
premise_answers fs slice h (Said.premise p) = one_answers.premise fs slice h p
premise_answers fs slice h (Said.assume p) = no_check
premise_answers fs slice h (Said.step p r cs) = no_check
premise_answers fs slice h Said.close = no_check
premise_answers fs slice h Said.separator = no_check
premise_answers fs slice h (Said.base n) = no_check
premise_answers fs slice h (Said.pair u v) = no_check
premise_answers fs slice h (Said.nucleus e) = no_check
premise_answers fs slice h (Said.value a e) = no_check

act_answers : (mode : Mode) (fs : List Formula) (slice : ℕ) (h : History) (x : Said ℕ) → OneAnswer ((act_calls mode fs slice).checks h x)
act_answers mode fs slice h (Said.mode m) = no_check
act_answers mode fs slice h (Said.premise p) = no_check
act_answers mode fs slice h (Said.assume p) = one_answers.assume fs slice h p
act_answers mode fs slice h (Said.step p r cs) = one_answers.step mode fs slice h p r cs
act_answers mode fs slice h Said.close = one_answers.close h
act_answers mode fs slice h Said.separator = no_check
act_answers mode fs slice h (Said.base n) = no_check
act_answers mode fs slice h (Said.pair u v) = no_check
act_answers mode fs slice h (Said.nucleus e) = no_check
act_answers mode fs slice h (Said.value a e) = no_check

-- two ends of runs are the same
abbrev pub Same : History → History → Option Fault → Option Fault → Type 0
Same h k d e = (h ≡ k) × (d ≡ e)

pub stops_once : {n : ℕ} {cs : List Check} → OneAnswer cs → (u v : Fault) → Stops n cs u → Stops n cs v → u ≡ v
stops_once {n} one u v p q = p.2 ∙ ap (refused_at n) (one.single p.0 q.0 p.1 q.1) ∙ sym q.2

module _ (calls : Calls) (answers : (h : History) (x : Said ℕ) → OneAnswer (calls.checks h x)) where
  runs_once : {h j k : History} {n : ℕ} {xs : List (Said ℕ)} {d e : Option Fault} → Runs calls h n xs j d → Runs calls h n xs k e → Same j k d e
  runs_once Runs.done Runs.done = (refl, refl)
  runs_once {h} (Runs.stop {x = x} {fault = u} stops) (Runs.stop {fault = v} also) = (refl, ap Some (stops_once (answers h x) u v stops also))
  runs_once {h} (Runs.stop {x = x} stops) (Runs.next accepted rest) = absurd ((answers h x).apart stops.0 accepted stops.1)
  runs_once {h} (Runs.next {x = x} accepted rest) (Runs.stop stops) = absurd ((answers h x).apart stops.0 accepted stops.1)
  runs_once (Runs.next accepted rest) (Runs.next also others) = runs_once rest others

goes_on_once : (fs : List Formula) (slice : ℕ) (xs : List (Said ℕ)) (h j k : History) (c d e : Option Fault) → GoesOn fs slice xs h c j d → GoesOn fs slice xs h c k e → Same j k d e
goes_on_once fs slice xs h j k None d e p q = runs_once (act_calls (mode_of xs) fs slice) (act_answers (mode_of xs) fs slice) p q
goes_on_once fs slice xs h j k (Some c) d e p q = (p.0 ∙ sym q.0, p.1 ∙ sym q.1)

pub runs_all_once : (fs : List Formula) (slice : ℕ) (xs : List (Said ℕ)) (h k : History) (d e : Option Fault) → RunsAll fs slice xs h d → RunsAll fs slice xs k e → Same h k d e
runs_all_once fs slice xs h k d e p q =
    let same = runs_once (premise_calls fs slice) (premise_answers fs slice) p.2 q.2 in
    goes_on_once fs slice xs p.0 h k p.1 d e p.3 (subst₂ (λ j c. GoesOn fs slice xs j c k e) (sym same.0) (sym same.1) q.3)
