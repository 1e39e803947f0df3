-- The reading of records, form before formula, over the formulas of a store of some capacity.
use Rattle.std.specs.Prelude.{◌≡◌, ℕ, ◌+◌, ◌<◌, ◌≤◌, true, false, List, [], ◌∷◌, length, Some, None, Option, Ok, Err, Result}
use Rattle.grammar.specs.Formula.{Formula}
use Rattle.grammar.specs.Reading.{Read}
use Rattle.grammar.specs.declared.refusal.Refusal.{Refusal}
use Rattle.records.specs.Limits.{most_input}
use Rattle.records.specs.Pieces.{Piece, records}
use Rattle.entries.specs.Entries.{Said}
use Rattle.entries.specs.Forms.{onto, record_form}
use Rattle.entries.specs.Turns.{complete}
use Rattle.entries.specs.declared.turn.Format.{Format}
use Rattle.entries.specs.declared.turn.Turn.{Turn}
use Rattle.entries.specs.declared.turn.Turn.TheVariants.{Start}
use Rattle.answers.specs.declared.fault.Fault.{Fault}
use Rattle.answers.specs.declared.fault.Fault.TheVariants.{TooLong, At}
use Rattle.answers.specs.declared.fault.Reason.{Reason}
use Rattle.answers.specs.declared.fault.Reason.TheVariants.{Form, Formula as AFormula}

-- the text of a record's formula
abbrev pub text_of : {F : Type 0} → Said F → Option F
text_of (Said.premise s) = Some s
text_of (Said.assume s) = Some s
text_of (Said.step s r cs) = Some s
text_of _ = None

-- what the record says, with its formula at a place
abbrev pub placed : {F : Type 0} → Said F → ℕ → Said ℕ
placed (Said.mode m) p = Said.mode m
placed (Said.premise s) p = Said.premise p
placed (Said.assume s) p = Said.assume p
placed (Said.step s r cs) p = Said.step p r cs
placed Said.close p = Said.close
placed Said.separator p = Said.separator
placed (Said.base n) p = Said.base n
placed (Said.pair u v) p = Said.pair u v
placed (Said.nucleus e) p = Said.nucleus e
placed (Said.value a e) p = Said.value a e

-- a record without a formula is the same at every place, and leaves the store
abbrev pub EntersText : ℕ → Said (List ℕ) → Option (List ℕ) → List Formula → List Formula → Result (Said ℕ) Refusal → Type 0
EntersText capacity x None fs gs r = (r ≡ Ok (placed x 0)) × (gs ≡ fs)
EntersText capacity x (Some s) fs gs r = (a : Result ℕ Refusal) × Read s capacity fs gs a × (r ≡ onto (placed x) a)

-- a record's formula is read into a store that held fs and then holds gs
abbrev pub EntersRecord : ℕ → Said (List ℕ) → List Formula → List Formula → Result (Said ℕ) Refusal → Type 0
EntersRecord capacity x fs gs r = EntersText capacity x (text_of x) fs gs r

abbrev pub after_form : Result (Said ℕ) Refusal → Turn → Result (Said ℕ × Turn) Reason
after_form (Ok x) next = Ok (x, next)
after_form (Err refusal) next = Err (AFormula refusal)

abbrev pub ByForm : ℕ → Result (Said (List ℕ) × Turn) ℕ → List Formula → List Formula → Result (Said ℕ × Turn) Reason → Type 0
ByForm capacity (Err place) fs gs r = (r ≡ Err (Form place)) × (gs ≡ fs)
ByForm capacity (Ok x) fs gs r = (a : Result (Said ℕ) Refusal) × EntersRecord capacity x.0 fs gs a × (r ≡ after_form a x.1)

-- one record: its form, then its formula
abbrev pub ReadsRecord : ℕ → Format → Turn → Piece → List Formula → List Formula → Result (Said ℕ × Turn) Reason → Type 0
ReadsRecord capacity format turn p fs gs r = ByForm capacity (record_form format turn p) fs gs r

-- records from number n on: what they say up to the first that is wrong, and that fault, if there is one
pub data Reads (capacity : ℕ) (format : Format) : Turn → ℕ → List Piece → List Formula → List Formula → List (Said ℕ) → Option Fault → Type 0 where
  done : {turn : Turn} {n : ℕ} {fs : List Formula} → complete format turn ≡ true → Reads capacity format turn n [] fs fs [] None
  absent : {turn : Turn} {n : ℕ} {fs : List Formula} → complete format turn ≡ false → Reads capacity format turn n [] fs fs [] (Some (At n (Form 1)))
  stop : {turn : Turn} {n : ℕ} {p : Piece} {ps : List Piece} {fs gs : List Formula} {w : Reason}
      → ReadsRecord capacity format turn p fs gs (Err w) → Reads capacity format turn n (p ∷ ps) fs gs [] (Some (At n w))
  next : {turn : Turn} {n : ℕ} {p : Piece} {ps : List Piece} {fs hs : List Formula} {xs : List (Said ℕ)} {e : Option Fault} (gs : List Formula) (x : Said ℕ) (later : Turn)
      → ReadsRecord capacity format turn p fs gs (Ok (x, later)) → Reads capacity format later (n + 1) ps gs hs xs e → Reads capacity format turn n (p ∷ ps) fs hs (x ∷ xs) e

-- an input s, read into a store that held fs and then holds gs
pub data InputSays (capacity : ℕ) (format : Format) (s : List ℕ) (fs : List Formula) : List Formula → List (Said ℕ) → Option Fault → Type 0 where
  too_long : most_input < length s → InputSays capacity format s fs fs [] (Some TooLong)
  read : {gs : List Formula} {xs : List (Said ℕ)} {e : Option Fault} → length s ≤ most_input → Reads capacity format Start 1 (records s) fs gs xs e → InputSays capacity format s fs gs xs e
