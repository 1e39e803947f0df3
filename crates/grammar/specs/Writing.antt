-- What writing a formula answers.
use Rattle.std.specs.Prelude.{◌≡◌, ℕ, ◌+◌, ◌<◌, ◌≤◌, ◌⊎◌, List, ◌++◌, length, take, drop, Ok, Err, Result, MatchResult}
use Rattle.grammar.specs.Formula.{Formula}
use Rattle.grammar.specs.WrittenText.{text}
use Rattle.grammar.specs.Contents.{formula_at, Once}
use Rattle.grammar.specs.Reading.{Read}
use Rattle.grammar.specs.declared.refusal.Refusal.{Refusal}
use Rattle.grammar.specs.declared.refusal.Refusal.TheVariants.{FewRecords, LongText, NotFormula, DeepFormula, RecordsWanting, ShortBuffer, NotStored}

-- a buffer with t written from a place on, and the rest as it was
abbrev pub put : List ℕ → ℕ → List ℕ → List ℕ
put buffer at t = take at buffer ++ (t ++ drop (at + length t) buffer)

abbrev pub text_at : List Formula → ℕ → List ℕ
text_at fs place = text (formula_at fs place)

-- why a store that holds fs does not write a place into a buffer
abbrev pub Unwritten : List Formula → ℕ → List ℕ → Refusal → Type 0
Unwritten fs place buffer FewRecords = ⊥
Unwritten fs place buffer LongText = ⊥
Unwritten fs place buffer (NotFormula i) = ⊥
Unwritten fs place buffer DeepFormula = ⊥
Unwritten fs place buffer RecordsWanting = ⊥
Unwritten fs place buffer ShortBuffer = (place < length fs) × (length buffer < length (text_at fs place))
Unwritten fs place buffer NotStored = length fs ≤ place

-- the buffer as it was and as it is, and the answer: the text's length, or a refusal that changes nothing
abbrev pub Written : List Formula → ℕ → List ℕ → List ℕ → Result ℕ Refusal → Type 0
Written fs place before after (Ok n) =
    (place < length fs) × (n ≡ length (text_at fs place)) × (n ≤ length before) × (after ≡ put before 0 (text_at fs place))
Written fs place before after (Err refusal) = Unwritten fs place before refusal × (after ≡ before)

-- f stands at a place of fs
abbrev pub HeldAt : List Formula → Formula → ℕ → Type 0
HeldAt fs f place = (place < length fs) × (formula_at fs place ≡ f)

-- what a store that held gs and then holds hs answers to the written text of f
pub record RoundTrip (f : Formula) (gs hs : List Formula) (answer : Result ℕ Refusal) : Type 0 where
  -- a place at which it then holds f, unless records are wanting
  pub held : MatchResult answer (HeldAt hs f) (λ refusal. refusal ≡ RecordsWanting)
  -- where it held f before, that same place, unless records are wanting
  pub kept : (place : ℕ) → HeldAt gs f place → (answer ≡ Ok place) ⊎ (answer ≡ Err RecordsWanting)

-- the text s comes back as f from any store, however many records it has and whatever formulas it holds, each once
abbrev pub ReadsBack : Formula → List ℕ → Type 0
ReadsBack f s =
    (capacity : ℕ) (gs hs : List Formula) (answer : Result ℕ Refusal) → Once gs → Read s capacity gs hs answer → RoundTrip f gs hs answer
