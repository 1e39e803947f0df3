-- What the code answers, and what it leaves in the slice of entries.
use Rattle.std.specs.Prelude.{◌≡◌, ℕ, ◌<◌, ◌≤◌, List, map, length, take, drop, Some, None, Option, Ok, Err, Result}
use Rattle.grammar.specs.Formula.{Formula}
use Rattle.records.specs.Limits.{most_input}
use Rattle.records.specs.Pieces.{Piece, records}
use Rattle.answers.specs.declared.fault.Fault.{Fault}
use Rattle.answers.specs.declared.fault.Fault.TheVariants.{TooLong, At}
use Rattle.answers.specs.declared.unanswered.Unanswered.{Unanswered}
use Rattle.answers.specs.declared.unanswered.Unanswered.TheVariants.{ShortEntries, NotStored, ShortValues, Faulty}
use Rattle.entries.specs.Entries.{Said, stored}
use Rattle.entries.specs.declared.entry.Entry.{Entry}
use Rattle.entries.specs.declared.turn.Format.{Format}
use Rattle.entries.specs.declared.turn.Turn.{Turn}
use Rattle.entries.specs.declared.turn.Turn.TheVariants.{Start}
use Rattle.readings.specs.Settled.{SameReading}
use Rattle.readings.specs.Reading.{Reads, ReadsRecord, InputSays}

abbrev pub stored_next : Entry ℕ × Turn → Said ℕ × Turn
stored_next r = (stored r.0, r.1)

-- the record of a number, as the code answers it
abbrev pub ReadsNumbered : ℕ → Format → Turn → ℕ → Piece → List Formula → List Formula → Result (Entry ℕ × Turn) Fault → Type 0
ReadsNumbered capacity format turn n p fs gs (Ok x) = ReadsRecord capacity format turn p fs gs (Ok (stored_next x))
ReadsNumbered capacity format turn n p fs gs (Err TooLong) = ⊥
ReadsNumbered capacity format turn n p fs gs (Err (At k w)) = (k ≡ n) × ReadsRecord capacity format turn p fs gs (Err w)

-- entries before and after: those that say xs stand first, and the rest is as it was
pub record Kept (xs : List (Said ℕ)) (before after : List (Entry ℕ)) : Type 0 where
  pub long : length after ≡ length before
  pub said : map stored (take (length xs) after) ≡ xs
  pub rest : drop (length xs) after ≡ drop (length xs) before

-- records for which there is room, as the code answers them: how many, or the first fault
abbrev pub RecordsRead : ℕ → Format → List ℕ → List Formula → List Formula → List (Entry ℕ) → List (Entry ℕ) → Result ℕ Fault → Type 0
RecordsRead capacity format s fs gs before after (Ok n) = (xs : List (Said ℕ)) × Reads capacity format Start 1 (records s) fs gs xs None × Kept xs before after × (n ≡ length xs)
RecordsRead capacity format s fs gs before after (Err fault) = (xs : List (Said ℕ)) × Reads capacity format Start 1 (records s) fs gs xs (Some fault) × Kept xs before after

-- what an input says up to its first fault, that it says nothing else, and entries that say so; where it is not too long, there is one for each record
pub record SaysInto (capacity : ℕ) (format : Format) (s : List ℕ) (fs gs : List Formula) (before after : List (Entry ℕ)) (xs : List (Said ℕ)) (e : Option Fault) : Type 0 where
  pub says : InputSays capacity format s fs gs xs e
  pub only : (hs : List Formula) (ys : List (Said ℕ)) (d : Option Fault) → InputSays capacity format s fs hs ys d → SameReading gs hs xs ys e d
  pub room : length s ≤ most_input → length (records s) ≤ length before
  pub kept : Kept xs before after

-- an input that is not too long has more records than there are entries, and nothing is read
pub record NoRoom (s : List ℕ) (fs gs : List Formula) (before after : List (Entry ℕ)) : Type 0 where
  pub short : length s ≤ most_input
  pub many : length before < length (records s)
  pub formulas : gs ≡ fs
  pub entries : after ≡ before

-- an input s, read into a store that held fs and then holds gs: how many records it has, or why it is not read
abbrev pub InputRead : ℕ → Format → List ℕ → List Formula → List Formula → List (Entry ℕ) → List (Entry ℕ) → Result ℕ Unanswered → Type 0
InputRead capacity format s fs gs before after (Ok n) = (xs : List (Said ℕ)) × SaysInto capacity format s fs gs before after xs None × (n ≡ length xs) × (n ≡ length (records s))
InputRead capacity format s fs gs before after (Err ShortEntries) = NoRoom s fs gs before after
InputRead capacity format s fs gs before after (Err NotStored) = ⊥
InputRead capacity format s fs gs before after (Err ShortValues) = ⊥
InputRead capacity format s fs gs before after (Err (Faulty fault)) = (xs : List (Said ℕ)) × SaysInto capacity format s fs gs before after xs (Some fault)
