-- Records are run one after the other.
use Rattle.std.proofs.Common.{◌≡◌, ℕ, ◌+◌, ◌-◌, ◌<◌, ◌≤◌, List, ◌∷◌, map, length, get_or, drop, Some, None, Option, Err, sym, refl, ap, ap₂, ◌∙◌, subst, arith}
use Rattle.std.proofs.lemmas.List.{drop-drop, drop-map, drop_more, drop_all}
use Rattle.fitch.specs.Checks.{Accepted}
use Rattle.fitch.specs.History.{History}
use Rattle.derivations.specs.Derived.{sheet_in, Leaves as LeavesOpen}
use Rattle.derivations.specs.Sheets.{Sheet, formulas_of, Leaves}
use Rattle.derivations.specs.declared.open.Open.{Open}
use Rattle.entries.specs.Entries.{Said, stored}
use Rattle.answers.specs.declared.fault.Fault.{Fault}
use Rattle.entries.specs.declared.entry.Entry.{Entry}
use Rattle.entries.specs.declared.entry.Entry.TheVariants.{Mode}
use Rattle.fitch.specs.declared.mode.Mode.TheVariants.{Constructive}
use Rattle.formulas.specs.Stores.{contents}
use Rattle.scripts.specs.Runs.{Calls, premise_calls, act_calls, Runs, Ran, RanOne}

pub nothing_left : (s : Sheet) → Leaves s s
nothing_left s = record { more = omega arith; store = refl; mode = refl; slice = refl; long = refl; rest = refl }

pub drop_further : {A : Type 0} (j k : ℕ) (xs ys : List A) → j ≤ k → drop j xs ≡ drop j ys → drop k xs ≡ drop k ys
drop_further {A = A} j k xs ys le e = sym (split xs) ∙ ap (drop (k - j)) e ∙ split ys
  where
    split : (zs : List A) → drop (k - j) (drop j zs) ≡ drop k zs
    split zs = drop-drop (k - j) j zs ∙ ap (λ n. drop n zs) (omega (arith, le))

pub leave_on : {s t u : Sheet} → Leaves s t → Leaves t u → Leaves s u
leave_on {s} {t} {u} first second = record {
  more = omega (arith, first.more, second.more);
  store = second.store ∙ first.store;
  mode = second.mode ∙ first.mode;
  slice = second.slice ∙ first.slice;
  long = second.long ∙ first.long;
  rest = second.rest ∙ drop_further t.count u.count t.lines.now s.lines.now second.more first.rest;
}

pub nothing_left_open : (o : Open) → LeavesOpen o o
nothing_left_open o = record { premises = refl; sheet = nothing_left (sheet_in o) }

pub leave_on_open : {o p q : Open} → LeavesOpen o p → LeavesOpen p q → LeavesOpen o q
leave_on_open first second = record { premises = second.premises ∙ first.premises; sheet = leave_on first.sheet second.sheet }

module _ (calls : Calls) (first : ℕ) (all : List (Said ℕ)) where
  -- after a history and its first n records, those that are left go on from here
  abbrev pub SoFar : History → ℕ → History → Type 0
  SoFar before n h = (k : History) (e : Option Fault) → Runs calls h (first + n) (drop n all) k e → Runs calls before first all k e

  pub none_yet : (h : History) → SoFar h 0 h
  none_yet h k e runs = subst (λ n. Runs calls h n all k e) (plus_zero first) runs
    where
      plus_zero : (n : ℕ) → n + 0 ≡ n
      plus_zero n = omega arith

  -- x is record n of those to be run, counted from 0
  abbrev pub At_hand : ℕ → Said ℕ → Type 0
  At_hand n x = drop n all ≡ x ∷ drop (n + 1) all

  pub one_more : (before h : History) (n : ℕ) (x : Said ℕ) → At_hand n x → SoFar before n h → Accepted (calls.checks h x) → SoFar before (n + 1) (calls.after h x)
  one_more before h n x here so_far accepted k e runs =
      so_far k e (subst (λ xs. Runs calls h (first + n) xs k e) (sym here) (Runs.next accepted (subst (λ i. Runs calls (calls.after h x) i (drop (n + 1) all) k e) (omega arith) runs)))

  pub all_run : (before h : History) (n : ℕ) → length all ≤ n → SoFar before n h → Runs calls before first all h None
  all_run before h n le so_far = so_far h None (subst (λ xs. Runs calls h (first + n) xs h None) (sym (drop_all n all le)) Runs.done)

  -- a fault of the record at hand is one of the run
  pub stopped_by : (Has : History → Type 0) (before h : History) (n : ℕ) (x : Said ℕ) (fault : Fault) → At_hand n x → SoFar before n h → RanOne calls Has h (first + n) x (Err fault) → Ran calls Has before first all (Err fault)
  stopped_by Has before h n x fault here so_far ran = (h, so_far h (Some fault) (subst (λ xs. Runs calls h (first + n) xs h (Some fault)) (sym here) (Runs.stop ran.0)), ran.1)

-- what stands past the end of the records
abbrev pub no_entry : Entry ℕ
no_entry = Mode Constructive

pub at_hand : (es : List (Entry ℕ)) (n : ℕ) (d : Entry ℕ) → n < length es → drop n (map stored es) ≡ stored (get_or es n d) ∷ drop (n + 1) (map stored es)
at_hand es n d lt = drop-map stored n es ∙ ap (map stored) (drop_more es n d lt) ∙ ap (λ xs. stored (get_or es n d) ∷ xs) (sym (drop-map stored (n + 1) es))

pub same_premise_calls : {s t : Sheet} → Leaves s t → premise_calls (formulas_of t) (length t.lines.now) ≡ premise_calls (formulas_of s) (length s.lines.now)
same_premise_calls {s} {t} leaves = ap₂ premise_calls (ap (λ store. contents store.now) leaves.store) leaves.long

pub same_act_calls : {s t : Sheet} → Leaves s t → act_calls t.mode (formulas_of t) (length t.lines.now) ≡ act_calls s.mode (formulas_of s) (length s.lines.now)
same_act_calls {s} {t} leaves =
    ap (λ mode. act_calls mode (formulas_of t) (length t.lines.now)) leaves.mode
    ∙ ap₂ (act_calls s.mode) (ap (λ store. contents store.now) leaves.store) leaves.long
