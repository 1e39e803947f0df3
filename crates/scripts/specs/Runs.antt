-- The records of a proof file as the calls of a derivation, over the formulas fs of its store and a slice of so many line records.
use Rattle.std.specs.Prelude.{◌≡◌, ℕ, ◌+◌, List, [], ◌∷◌, length, Some, None, Option, Ok, Err, Result}
use Rattle.grammar.specs.Contents.{formula_at}
use Rattle.grammar.specs.Formula.{Formula}
use Rattle.fitch.specs.Calls.{premise_checks, assume_checks, step_checks, close_checks}
use Rattle.fitch.specs.Checks.{Check, Accepted, Refused}
use Rattle.fitch.specs.History.{History, premise, assume, step, close}
use Rattle.fitch.specs.declared.mode.Mode.{Mode}
use Rattle.fitch.specs.declared.refusal.Refusal.{Refusal}
use Rattle.derivations.specs.Derived.{mode_in, sheet_in}
use Rattle.derivations.specs.Gathered.{sheet_of}
use Rattle.derivations.specs.Sheets.{formulas_of}
use Rattle.derivations.specs.declared.gathering.Gathering.{Gathering}
use Rattle.derivations.specs.declared.open.Open.{Open}
use Rattle.entries.specs.Entries.{Said}
use Rattle.answers.specs.declared.fault.Fault.{Fault}
use Rattle.answers.specs.declared.fault.Fault.TheVariants.{At}
use Rattle.answers.specs.declared.fault.Reason.TheVariants as reasons

-- how records are run: the checks of each, and the history after it; one that has no checks is passed over
pub record Calls : Type 1 where
  pub checks : History → Said ℕ → List Check
  pub after : History → Said ℕ → History

-- while premises are gathered
abbrev premise_checked : List Formula → ℕ → History → Said ℕ → List Check
premise_checked fs slice h (Said.premise p) = premise_checks fs slice h p
premise_checked fs slice h _ = []

abbrev premise_after : List Formula → History → Said ℕ → History
premise_after fs h (Said.premise p) = premise (formula_at fs p) ∷ h
premise_after fs h _ = h

abbrev pub premise_calls : List Formula → ℕ → Calls
premise_calls fs slice = record { checks = premise_checked fs slice; after = premise_after fs }

-- once it is open
abbrev act_checked : Mode → List Formula → ℕ → History → Said ℕ → List Check
act_checked mode fs slice h (Said.assume p) = assume_checks fs slice h p
act_checked mode fs slice h (Said.step p r cs) = step_checks mode fs slice h p r cs
act_checked mode fs slice h Said.close = close_checks h
act_checked mode fs slice h _ = []

abbrev act_after : List Formula → History → Said ℕ → History
act_after fs h (Said.assume p) = assume (formula_at fs p) ∷ h
act_after fs h (Said.step p r cs) = step (formula_at fs p) r cs ∷ h
act_after fs h Said.close = close ∷ h
act_after fs h _ = h

abbrev pub act_calls : Mode → List Formula → ℕ → Calls
act_calls mode fs slice = record { checks = act_checked mode fs slice; after = act_after fs }

-- the calls of a derivation that gathers premises, and of one that is open
abbrev pub gathering_calls : Gathering → Calls
gathering_calls g = premise_calls (formulas_of (sheet_of g)) (length g.lines.now)

abbrev pub open_calls : Open → Calls
open_calls o = act_calls (mode_in o) (formulas_of (sheet_in o)) (length o.lines.now)

-- a refusal of the call that a record stands for, as the fault of that record
abbrev pub refused_at : ℕ → Refusal → Fault
refused_at n e = At n (reasons.Derivation e)

-- the checks of record n refuse, and this is the fault
abbrev pub Stops : ℕ → List Check → Fault → Type 0
Stops n cs fault = (e : Refusal) × Refused cs e × (fault ≡ refused_at n e)

-- records from number n on, after h: the history that they reach, and the fault that stopped them, if one did
pub data Runs (calls : Calls) : History → ℕ → List (Said ℕ) → History → Option Fault → Type 0 where
  done : {h : History} {n : ℕ} → Runs calls h n [] h None
  stop : {h : History} {n : ℕ} {x : Said ℕ} {xs : List (Said ℕ)} {fault : Fault} → Stops n (calls.checks h x) fault → Runs calls h n (x ∷ xs) h (Some fault)
  next : {h k : History} {n : ℕ} {x : Said ℕ} {xs : List (Said ℕ)} {e : Option Fault}
      → Accepted (calls.checks h x) → Runs calls (calls.after h x) (n + 1) xs k e → Runs calls h n (x ∷ xs) k e

-- one record, as the code runs it: the state has then the history after it, or the one before it, where the fault is its refusal
abbrev pub RanOne : Calls → (History → Type 0) → History → ℕ → Said ℕ → Result Unit Fault → Type 0
RanOne calls Has h n x (Ok u) = Accepted (calls.checks h x) × Has (calls.after h x)
RanOne calls Has h n x (Err fault) = Stops n (calls.checks h x) fault × Has h

-- records, as the code runs them: the state has then the history that they reach
abbrev pub Ran : Calls → (History → Type 0) → History → ℕ → List (Said ℕ) → Result Unit Fault → Type 0
Ran calls Has h n xs (Ok u) = (k : History) × Runs calls h n xs k None × Has k
Ran calls Has h n xs (Err fault) = (k : History) × Runs calls h n xs k (Some fault) × Has k
