-- What the sheet keeps, and what holds after a record is written.
use Rattle.std.proofs.Common.{◌≡◌, ℕ, ◌+◌, ◌-◌, ◌<◌, ◌≤◌, ◌∷◌, List, length, get_or, drop, set, ap, ◌∙◌, arith}
use mathlib.Core.Logic.{∥∥₁_map}
use native.Mathlib.Decide.{dec_lt, dec_le}
use Rattle.std.proofs.lemmas.List.{drop-set-lt, length-set}
use Rattle.grammar.specs.Formula.{Formula}
use Rattle.fitch.specs.Calls.{Room}
use Rattle.fitch.specs.History.{History, premise, assume, step, close, outer, Permits}
use Rattle.fitch.specs.Limits.{most_premises, most_lines, most_boxes}
use Rattle.fitch.specs.Records.{Reach, moved, padded, top_first}
use Rattle.fitch.specs.declared.rule.Reason.TheVariants.{Assumption, Step}
use Rattle.fitch.specs.declared.rule.Rule.{Rule}
use Rattle.ledger.specs.Recorded.{no_line, ended_at, Recorded, Gathers, Derives}
use Rattle.ledger.specs.Stack.{reach, fresh_box}
use Rattle.ledger.specs.declared.line.Line.{Line}
use Rattle.ledger.specs.declared.open_box.OpenBox.{OpenBox}
use Rattle.ledger.proofs.Calling.{top_within, gather, add_box, add_step, end_box}
use Rattle.ledger.proofs.Informing.{premises_within}
use Rattle.ledger.proofs.Recording.{settled}
use Rattle.boxes.specs.Stack.{stack}
use Rattle.derivations.specs.Gathered.{sheet_of, Gathered}
use Rattle.derivations.specs.Derived.{sheet_in, Derived}
use Rattle.derivations.specs.Finished.{formulas_by}
use Rattle.derivations.specs.Sheets.{Sheet, formulas_of, formula_of, HasRoom, Leaves}
use Rattle.derivations.specs.declared.gathering.Gathering.{Gathering}
use Rattle.derivations.specs.declared.open.Open.{Open}
use Rattle.derivations.specs.declared.sealed.Sealed.{Sealed}

-- the lines that a derivation has are recorded
pub recorded_gathering : (g : Gathering) → ∥ ((h : History) × Recorded (formulas_of (sheet_of g)) g.lines.now g.count h) ∥₁
recorded_gathering g = ∥∥₁_map g.recorded (λ r. (r.0, r.1.recorded))

pub recorded_open : (o : Open) → ∥ ((h : History) × Recorded (formulas_of (sheet_in o)) o.lines.now o.count h) ∥₁
recorded_open o = ∥∥₁_map o.recorded (λ r. (r.0, r.1.recorded))

pub recorded_sealed : (d : Sealed) → ∥ ((h : History) × Recorded (formulas_by d) d.lines.now d.count h) ∥₁
recorded_sealed d = ∥∥₁_map d.recorded (λ r. (r.0, r.1.recorded))

-- the sheet with other records in the slice that it holds, and another number of lines
pub record Becomes (s : Sheet) (es : List Line) (n : ℕ) (after : Sheet) : Type 0 where
  pub store : after.store ≡ s.store
  pub mode : after.mode ≡ s.mode
  pub slice : after.lines.ghost_name ≡ s.lines.ghost_name
  pub count : after.count ≡ n
  pub lines : after.lines.now ≡ es

-- a record that is written below the number of lines leaves what lies past them
leaves : (s after : Sheet) (i n : ℕ) (line : Line) → i < n → s.count ≤ n → Becomes s (set s.lines.now i line) n after → Leaves s after
leaves s after i n line below more w = record {
  more = omega (arith, more, w.count);
  store = w.store;
  mode = w.mode;
  slice = w.slice;
  long = ap length w.lines ∙ length-set s.lines.now i line;
  rest = ap (λ es. drop after.count es) w.lines ∙ drop-set-lt after.count s.lines.now i line (omega (arith, w.count));
}

-- a line is written at the next number
pub write_leaves : (s after : Sheet) (line : Line) → Becomes s (set s.lines.now s.count line) (s.count + 1) after → Leaves s after
write_leaves s after line w = leaves s after s.count (s.count + 1) line (omega arith) (omega arith) w

-- the end of a box is put into its first line's record
pub end_leaves : (s after : Sheet) (first : ℕ) (line : Line) → 0 < first → first ≤ s.count → Becomes s (set s.lines.now (first - 1) line) s.count after → Leaves s after
end_leaves s after first line some within w = leaves s after (first - 1) s.count line (omega arith) (omega arith) w

-- a slice is as long after a record is written
pub still_fits : (n i : ℕ) (es : List Line) (line : Line) → n ≤ length es → n ≤ length (set es i line)
still_fits n i es line fits = omega (arith, fits, length-set es i line)

-- the premises are lines
pub premises_in : (d : Sealed) → d.premises ≤ length d.lines.now
premises_in d = settled (dec_le _ _) d.recorded (λ r. (let p = premises_within d.fits r.1 in omega (arith, d.fits)))

-- the innermost box begins at a line
pub first_some : (o : Open) (t : OpenBox) → stack o.boxes ≡ reach t ∷ outer (stack o.boxes) → 0 < t.first
first_some o t e = settled (dec_lt _ _) o.recorded (λ r. (top_within r.1 (reach t) _ e).0)

pub first_within : (o : Open) (t : OpenBox) → stack o.boxes ≡ reach t ∷ outer (stack o.boxes) → t.first ≤ o.count
first_within o t e = settled (dec_le _ _) o.recorded (λ r. (top_within r.1 (reach t) _ e).1)

-- a record is left by the count of the lines, and by the history
module _ {fs : List Formula} {es : List Line} {n slice : ℕ} {h : History} (g : Recorded fs es n h) where
  pub room_left : Room h slice → (n < most_lines) × (n < slice)
  room_left r = (omega (arith, g.counted, r.0), omega (arith, g.counted, r.1))

  pub room_told : (n < most_lines) × (n < slice) → Room h slice
  room_told r = (omega (arith, g.counted, r.0), omega (arith, g.counted, r.1))

-- a premise is written
pub premised : (g : Gathering) (f : ℕ) (h : History) → Gathered g h → f < length (formulas_of (sheet_of g)) → g.count < most_premises → HasRoom (sheet_of g)
    → Gathers g.mode (formulas_of (sheet_of g)) (set g.lines.now g.count (record no_line { formula = f })) (g.count + 1) (premise (formula_of (sheet_of g) f) ∷ h)
premised g f h x stored few room = gather x f stored few room.1

-- a box is opened with an assumption
pub assumed : (o : Open) {us : List Reach} (f around : ℕ) (h : History) → Derived o h → f < length (formulas_of (sheet_in o)) → length (stack o.boxes) < most_boxes → HasRoom (sheet_in o)
    → around ≡ top_first (stack o.boxes) → us ≡ fresh_box (o.count + 1) ∷ stack o.boxes
    → Derives o.mode (formulas_of (sheet_in o)) (set o.lines.now o.count (record { formula = f; reason = Assumption; inside = o.count + 1; around = around; end = 0 })) (o.count + 1) o.premises us (assume (formula_of (sheet_in o) f) ∷ h)
assumed o f around h x stored few room a b = add_box x f around stored few room.0 room.1 a b

-- a line is written by a rule
pub stepped : (o : Open) {us : List Reach} (f inside : ℕ) (r : Rule) (cited is : List ℕ) (h : History) → Derived o h → f < length (formulas_of (sheet_in o)) → HasRoom (sheet_in o)
    → cited ≡ padded is → inside ≡ top_first (stack o.boxes) → us ≡ moved (o.count + 1) (stack o.boxes) → Permits o.mode h (formula_of (sheet_in o) f) r is
    → Derives o.mode (formulas_of (sheet_in o)) (set o.lines.now o.count (record { formula = f; reason = Step r cited; inside = inside; around = 0; end = 0 })) (o.count + 1) o.premises us (step (formula_of (sheet_in o) f) r is ∷ h)
stepped o f inside r cited is h x stored room pad i b permits = add_step x f inside cited stored room.0 room.1 pad i b permits

-- the innermost box is closed
pub closed : (o : Open) {us : List Reach} (t : OpenBox) (h : History) → Derived o h → stack o.boxes ≡ reach t ∷ outer (stack o.boxes) → us ≡ outer (stack o.boxes)
    → Derives o.mode (formulas_of (sheet_in o)) (set o.lines.now (t.first - 1) (ended_at (get_or o.lines.now (t.first - 1) no_line) t.end)) o.count o.premises us (close ∷ h)
closed o t h x e b = end_box x (reach t) o.fits e b
