-- What reading a text answers.
use Rattle.std.specs.Prelude.{◌≡◌, ℕ, ◌+◌, ◌<◌, ◌≤◌, List, length, Ok, Err, Result}
use Rattle.grammar.specs.Limits.{most_bytes, most_nesting}
use Rattle.grammar.specs.Formula.{Formula, nesting}
use Rattle.grammar.specs.Symbols.{signs}
use Rattle.grammar.specs.Texts.{Text, NoFormula}
use Rattle.grammar.specs.Contents.{formula_at, entered, Once}
use Rattle.grammar.specs.declared.refusal.Refusal.{Refusal}
use Rattle.grammar.specs.declared.refusal.Refusal.TheVariants.{FewRecords, LongText, NotFormula, DeepFormula, RecordsWanting, ShortBuffer, NotStored}

-- s is a text of f that can be read
pub record Readable (s : List ℕ) (f : Formula) : Type 0 where
  pub short : length s ≤ most_bytes
  pub text : Text f s
  pub shallow : nesting f ≤ most_nesting

-- s is a text that can be read, so deep and with so many signs
pub record Recognised (s : List ℕ) (nests marks : ℕ) : Type 0 where
  pub formula : Formula
  pub readable : Readable s formula
  pub nested : nests ≡ nesting formula
  pub signed : marks ≡ signs s

-- why a text can be read by no store
abbrev pub Unreadable : List ℕ → Refusal → Type 0
Unreadable s FewRecords = ⊥
Unreadable s LongText = most_bytes < length s
Unreadable s (NotFormula i) = (length s ≤ most_bytes) × NoFormula s i
Unreadable s DeepFormula = (length s ≤ most_bytes) × ((f : Formula) × Text f s × (most_nesting < nesting f))
Unreadable s RecordsWanting = ⊥
Unreadable s ShortBuffer = ⊥
Unreadable s NotStored = ⊥

-- entering f turns the formulas fs into gs, and f then stands at a place
pub record Enters (fs gs : List Formula) (f : Formula) (place : ℕ) : Type 0 where
  pub held : gs ≡ entered fs f
  pub within : place < length gs
  pub found : formula_at gs place ≡ f

-- why a store of so many records that holds fs refuses a text
abbrev pub Refused : List ℕ → ℕ → List Formula → Refusal → Type 0
Refused s capacity fs FewRecords = ⊥
Refused s capacity fs LongText = Unreadable s LongText
Refused s capacity fs (NotFormula i) = Unreadable s (NotFormula i)
Refused s capacity fs DeepFormula = Unreadable s DeepFormula
Refused s capacity fs RecordsWanting = ((f : Formula) × Readable s f) × (capacity < length fs + signs s)
Refused s capacity fs ShortBuffer = ⊥
Refused s capacity fs NotStored = ⊥

-- a store of so many records held fs, read the text s, and holds gs: the formula's place, or a refusal that changes nothing
abbrev pub Read : List ℕ → ℕ → List Formula → List Formula → Result ℕ Refusal → Type 0
Read s capacity fs gs (Ok place) = ((f : Formula) × Readable s f × Enters fs gs f place) × (length fs + signs s ≤ capacity)
Read s capacity fs gs (Err refusal) = Refused s capacity fs refusal × (gs ≡ fs)

-- a reading has no two answers, where each formula is held once
abbrev pub OneAnswer : Type 0
OneAnswer =
    (s : List ℕ) (capacity : ℕ) (fs gs hs : List Formula) (a b : Result ℕ Refusal) → Once fs → Read s capacity fs gs a → Read s capacity fs hs b → (a ≡ b) × (gs ≡ hs)
