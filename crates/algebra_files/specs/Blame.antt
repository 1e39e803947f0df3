-- How a refusal to weigh is told by the values of a file.
use Rattle.std.specs.Prelude.{◌≡◌, ℕ, ◌+◌, ◌<◌, ◌≤◌, ◌⊎◌, List, length}
use Rattle.answers.specs.declared.fault.Fault.TheVariants as faults
use Rattle.answers.specs.declared.fault.Reason.TheVariants.{Algebra}
use Rattle.answers.specs.declared.unanswered.Unanswered.{Unanswered}
use Rattle.answers.specs.declared.unanswered.Unanswered.TheVariants.{NotStored, ShortValues, Faulty}
use Rattle.heyting.specs.declared.refusal.Refusal.{Refusal}
use Rattle.heyting.specs.declared.refusal.Refusal.TheVariants.{WorldsOutOfRange, NoSuchWorld, SpanTooLarge, NotMember, ShortBuffer as TooShort, LetterNotMember}
use Rattle.verdicts.specs.declared.refusal.Unweighable.{Unweighable}
use Rattle.verdicts.specs.declared.refusal.Unweighable.TheVariants.{NotStored as Unstored, NotEvaluated}
use Rattle.algebra_files.specs.Faults.{record_at}
use Rattle.algebra_files.specs.Meant.{Gives, LastFor}

-- a letter's number is at most 26
abbrev pub SmallLetter : Refusal → Type 0
SmallLetter WorldsOutOfRange = Unit {0}
SmallLetter (NoSuchWorld pair) = Unit {0}
SmallLetter SpanTooLarge = Unit {0}
SmallLetter NotMember = Unit {0}
SmallLetter TooShort = Unit {0}
SmallLetter (LetterNotMember letter) = letter ≤ 26

abbrev pub SmallLetterIn : Unweighable → Type 0
SmallLetterIn Unstored = Unit {0}
SmallLetterIn (NotEvaluated refusal) = SmallLetter refusal

-- the value at index k is the last for the letter of this byte, if there is one
abbrev pub Latest : List (ℕ × ℕ) → ℕ → ℕ → Type 0
Latest vs byte k = ((j : ℕ) → j < length vs → Gives vs j byte → ⊥) ⊎ LastFor vs byte k

abbrev pub ValueBlamed : Refusal → List (ℕ × ℕ) → ℕ → Type 0
ValueBlamed WorldsOutOfRange vs k = k ≡ 0
ValueBlamed (NoSuchWorld pair) vs k = k ≡ 0
ValueBlamed SpanTooLarge vs k = k ≡ 0
ValueBlamed NotMember vs k = k ≡ 0
ValueBlamed TooShort vs k = k ≡ 0
ValueBlamed (LetterNotMember letter) vs k = Latest vs (96 + letter) k

-- the fault at the value that is blamed, where the values are records from n on
abbrev pub FaultAt : Refusal → List (ℕ × ℕ) → ℕ → Unanswered → Type 0
FaultAt refusal vs n why = (k : ℕ) × ValueBlamed refusal vs k × (why ≡ Faulty (faults.At (record_at n k) (Algebra refusal)))

abbrev pub WhyNot : Unweighable → List (ℕ × ℕ) → ℕ → Unanswered → Type 0
WhyNot Unstored vs n why = why ≡ NotStored
WhyNot (NotEvaluated WorldsOutOfRange) vs n why = FaultAt WorldsOutOfRange vs n why
WhyNot (NotEvaluated (NoSuchWorld pair)) vs n why = FaultAt (NoSuchWorld pair) vs n why
WhyNot (NotEvaluated SpanTooLarge) vs n why = FaultAt SpanTooLarge vs n why
WhyNot (NotEvaluated NotMember) vs n why = FaultAt NotMember vs n why
WhyNot (NotEvaluated TooShort) vs n why = why ≡ ShortValues
WhyNot (NotEvaluated (LetterNotMember letter)) vs n why = FaultAt (LetterNotMember letter) vs n why
