-- The premises, the other records and the sequent, put together.
use Rattle.std.proofs.Common.{◌≡◌, ℕ, ◌+◌, ◌≤◌, List, [], ◌∷◌, length, drop, Some, None, Ok, Err, IfOk, Result, inl, inr, refl, sym, ap, ap₂, ◌∙◌, subst, subst₂}
use Rattle.std.specs.Borrow.{Bor}
use Rattle.grammar.specs.Formula.{Formula}
use Rattle.fitch.specs.History.{History, begin}
use Rattle.fitch.specs.declared.mode.Mode.{Mode}
use Rattle.formulas.specs.Stores.{contents}
use Rattle.formulas.specs.declared.store.Store.{Store}
use Rattle.ledger.specs.Recorded.{Recorded}
use Rattle.ledger.specs.declared.line.Line.{Line}
use Rattle.derivations.specs.Derived.{sheet_in, Derived, Leaves as LeavesOpen}
use Rattle.derivations.specs.Gathered.{sheet_of, Gathered}
use Rattle.derivations.specs.Sheets.{Sheet, formulas_of, Leaves}
use Rattle.derivations.specs.Whole.{Makes, Opened, FromOpen, FromGathering, Whole}
use Rattle.derivations.specs.declared.gathering.Gathering.{Gathering}
use Rattle.derivations.specs.declared.open.Open.{Open}
use Rattle.entries.specs.Entries.{Said}
use Rattle.answers.specs.declared.checked.Checked.{Checked}
use Rattle.answers.specs.declared.fault.Fault.{Fault}
use Rattle.scripts.proofs.Running.{drop_further}
use Rattle.scripts.specs.Authoring.{GathersBy, WritesBy, TellsBy}
use Rattle.scripts.specs.Proofs.{mode_of, front, back, Entailed, Concluded, RecordsShow, RecordsShowOn, LinesOf}
use Rattle.scripts.specs.Runs.{premise_calls, act_calls, gathering_calls, open_calls, Runs, Ran}

module _ (fs : List Formula) (slice : ℕ) (xs : List (Said ℕ)) where
  gathered_fault : (k : History) (u : Fault) → Runs (premise_calls fs slice) [] 1 (front xs) k (Some u) → RecordsShow fs slice xs k (Err u)
  gathered_fault k u runs = inl (k, Some u, runs, (refl, refl))

  module _ (k : History) (gathered : Runs (premise_calls fs slice) [] 1 (front xs) k None) (j : History) where
    acted_fault : (u : Fault) → Runs (act_calls (mode_of xs) fs slice) (begin ∷ k) (length (front xs) + 1) (back xs) j (Some u) → RecordsShow fs slice xs j (Err u)
    acted_fault u runs = inl (k, None, gathered, runs)

    concluded : Runs (act_calls (mode_of xs) fs slice) (begin ∷ k) (length (front xs) + 1) (back xs) j None → (r : Result Checked Fault) → Concluded (mode_of xs) fs j (length xs) r → RecordsShow fs slice xs j r
    concluded acted (Ok c) shown = ((k, None, gathered, acted), shown)
    concluded acted (Err u) shown = inr ((k, None, gathered, acted), shown)

-- the records from n on are as they were
pub record Past (n : ℕ) (before after : List Line) : Type 0 where
  pub long : length after ≡ length before
  pub rest : drop n after ≡ drop n before

past_on : {m n : ℕ} {before held after : List Line} → m ≤ n → Past m before held → Past n held after → Past n before after
past_on {m} {n} {before} {held} {after} le first second = record { long = second.long ∙ first.long; rest = second.rest ∙ drop_further m n held before le first.rest }

past_by : {s after : Sheet} → Leaves s after → Past after.count s.lines.now after.lines.now
past_by leaves = record { long = leaves.long; rest = leaves.rest }

lines_of : {fs : List Formula} {before held after : List Line} {n : ℕ} {h : History} → after ≡ held → Past n before held → Recorded fs held n h → LinesOf fs before after h
lines_of {fs} {before} {held} {after} {n} {h} same past recorded =
    let at_count = subst (λ k. Recorded fs held k h × (drop k held ≡ drop k before)) recorded.counted (recorded, past.rest) in
    subst (λ es. LinesOf fs before es h) (sym same) (record { long = past.long; recorded = at_count.0; rest = at_count.1 })

-- the premises are gathered, and h is their history
pub record Front (fs : List Formula) (before : List Line) (xs : List (Said ℕ)) (after : Gathering) (h : History) : Type 0 where
  pub runs : Runs (premise_calls fs (length before)) [] 1 (front xs) h None
  pub history : Gathered after h
  pub mode : after.mode ≡ mode_of xs
  pub formulas : formulas_of (sheet_of after) ≡ fs
  pub past : Past after.count before after.lines.now

-- from a gathering that is made over a slice of these records
module _ {store : Bor Store} {es : List Line} {m : Mode} (g after : Gathering) (makes : Makes store es m g) (leaves : Leaves (sheet_of g) (sheet_of after)) where
  gathered_past : Past after.count es after.lines.now
  gathered_past = subst (λ xs. Past after.count xs after.lines.now) makes.lines (past_by leaves)

  gathered_formulas : formulas_of (sheet_of after) ≡ contents store.now
  gathered_formulas = ap (λ t. contents t.now) (leaves.store ∙ makes.store)

  gathered_ran : (r : Result Unit Fault) (xs : List (Said ℕ)) → Ran (gathering_calls g) (Gathered after) [] 1 xs r → Ran (premise_calls (contents store.now) (length es)) (Gathered after) [] 1 xs r
  gathered_ran r xs ran = subst (λ st. Ran st (Gathered after) [] 1 xs r) (ap₂ premise_calls (ap (λ t. contents t.now) makes.store) (ap length makes.lines)) ran

  gathered_lines : (h : History) {held : List Line} → held ≡ after.lines.now → Gathered after h → LinesOf (contents store.now) es held h
  gathered_lines h same x = lines_of same gathered_past (subst (λ fs. Recorded fs after.lines.now after.count h) gathered_formulas x.recorded)

  gathered_front : (xs : List (Said ℕ)) → m ≡ mode_of xs → Ran (gathering_calls g) (Gathered after) [] 1 (front xs) (Ok tt) → (h : History) × Front (contents store.now) es xs after h
  gathered_front xs is ran =
      let k = gathered_ran (Ok tt) (front xs) ran in
      (k.0, record { runs = k.1; history = k.2; mode = leaves.mode ∙ makes.mode ∙ is; formulas = gathered_formulas; past = gathered_past })

-- from the derivation that is then opened
module _ {fs : List Formula} {before : List Line} {xs : List (Said ℕ)} {after : Gathering} {h : History} (half : Front fs before xs after h) {o acted : Open} (leaves : LeavesOpen o acted) (opened : Opened after o) where
  acted_mode : acted.mode ≡ mode_of xs
  acted_mode = leaves.sheet.mode ∙ opened.sheet.mode ∙ half.mode

  acted_formulas : formulas_of (sheet_in acted) ≡ fs
  acted_formulas = ap (λ t. contents t.now) (leaves.sheet.store ∙ opened.sheet.store) ∙ half.formulas

  acted_calls : open_calls o ≡ act_calls (mode_of xs) fs (length before)
  acted_calls =
      ap (λ m. act_calls m (formulas_of (sheet_in o)) (length o.lines.now)) (opened.sheet.mode ∙ half.mode)
      ∙ ap₂ (act_calls (mode_of xs)) (ap (λ t. contents t.now) opened.sheet.store ∙ half.formulas) (ap length opened.sheet.lines ∙ half.past.long)

  acted_ran : (r : Result Unit Fault) → WritesBy xs o r acted → Ran (act_calls (mode_of xs) fs (length before)) (Derived acted) (begin ∷ h) (length (front xs) + 1) (back xs) r
  acted_ran r writes = subst (λ st. Ran st (Derived acted) (begin ∷ h) (length (front xs) + 1) (back xs) r) acted_calls (writes (begin ∷ h) (opened.history h half.history))

  acted_past : Past acted.count before acted.lines.now
  acted_past =
      past_on (subst (λ n. n ≤ acted.count) opened.sheet.count leaves.sheet.more) half.past
      (subst (λ es. Past acted.count es acted.lines.now) opened.sheet.lines (past_by leaves.sheet))

  acted_lines : (k : History) {es : List Line} → es ≡ acted.lines.now → Derived acted k → LinesOf fs before es k
  acted_lines k same x = lines_of same acted_past (subst (λ gs. Recorded gs acted.lines.now acted.count k) acted_formulas x.recorded)

-- what is shown of the records, and what is shown is entailed
pub record ShowsOn (fs : List Formula) (before es : List Line) (xs : List (Said ℕ)) (r : Result Checked Fault) : Type 0 where
  pub exact : RecordsShowOn fs before es xs r
  pub entails : IfOk r (Entailed fs)

no_shown : {fs : List Formula} {before es : List Line} {xs : List (Said ℕ)} {e : Fault} {r : Result Checked Fault} → r ≡ Err e → RecordsShowOn fs before es xs (Err e) → ShowsOn fs before es xs r
no_shown {fs} {before} {es} {xs} is shows = subst (ShowsOn fs before es xs) (sym is) (record { exact = shows; entails = tt })

module _ {fs : List Formula} {before es : List Line} {xs : List (Said ℕ)} {after : Gathering} {h : History} {o : Open} {r : Result Checked Fault} (half : Front fs before xs after h) (opened : Opened after o) where
  from_open : FromOpen (WritesBy xs) (TellsBy xs) o r es → ShowsOn fs before es xs r
  from_open (FromOpen.stopped {e} acted wrote leaves refused same) =
      let ran = acted_ran half leaves opened (Err e) wrote in
      no_shown refused (ran.0, acted_fault fs (length before) xs h half.runs ran.0 e ran.1, acted_lines half leaves opened ran.0 same ran.2)
  from_open (FromOpen.told {d} acted wrote leaves seals tells same) =
      let ran = acted_ran half leaves opened (Ok tt) wrote in
      let mode = seals.sheet.mode ∙ acted_mode half leaves opened in
      let formulas = ap (λ t. contents t.now) seals.sheet.store ∙ acted_formulas half leaves opened in
      let concludes = subst₂ (λ m gs. Concluded m gs ran.0 (length xs) r) mode formulas (tells.0 ran.0 (seals.history ran.0 ran.2)) in
      record {
        exact = (ran.0, concluded fs (length before) xs h half.runs ran.0 ran.1 r concludes, acted_lines half leaves opened ran.0 same ran.2);
        entails = subst (λ gs. IfOk r (Entailed gs)) formulas tells.1;
      }

from_gathering :
    {store : Bor Store} {before es : List Line} {xs : List (Said ℕ)} {g : Gathering} {r : Result Checked Fault}
    → Makes store before (mode_of xs) g → FromGathering (GathersBy xs) (WritesBy xs) (TellsBy xs) g r es → ShowsOn (contents store.now) before es xs r
from_gathering {store} {before} {es} {xs} {g} makes (FromGathering.stopped {e} after gathered leaves refused same) =
    let ran = gathered_ran g after makes leaves (Err e) (front xs) (gathered [] makes.history) in
    no_shown refused (ran.0, gathered_fault (contents store.now) (length before) xs ran.0 e ran.1, gathered_lines g after makes leaves ran.0 same ran.2)
from_gathering {xs = xs} {g = g} makes (FromGathering.opened after gathered leaves opened goes) =
    from_open (gathered_front g after makes leaves xs refl (gathered [] makes.history)).1 opened goes

-- a whole derivation whose author runs the records
pub records_shown :
    {store : Bor Store} {before es : List Line} {xs : List (Said ℕ)} {m : Mode} {r : Result Checked Fault}
    → m ≡ mode_of xs → Whole (GathersBy xs) (WritesBy xs) (TellsBy xs) store before m r es → ShowsOn (contents store.now) before es xs r
records_shown {store} {before} {es} {xs} {r = r} is whole =
    let w = subst (λ m. Whole (GathersBy xs) (WritesBy xs) (TellsBy xs) store before m r es) is whole in
    from_gathering w.makes w.runs
