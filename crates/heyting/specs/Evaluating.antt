-- What evaluating the formulas of a store answers.
use Rattle.std.specs.Prelude.{◌≡◌, ℕ, ◌+◌, ◌-◌, ◌<◌, ◌≤◌, false, List, map, length, Ok, Err, Result, slice_index, slice_index_or}
use Rattle.grammar.specs.Formula.{Formula}
use Rattle.grammar.specs.Writing.{put}
use Rattle.heyting.specs.Meaning.{Meaning, Member}
use Rattle.grammar.specs.declared.node.Node.{Node}
use Rattle.grammar.specs.declared.node.Node.TheVariants.{Falsum, Letter, Joined}
use Rattle.heyting.specs.Values.{operation, value, ByMembers}
use Rattle.heyting.specs.declared.refusal.Refusal.{Refusal}
use Rattle.heyting.specs.declared.refusal.Refusal.TheVariants.{WorldsOutOfRange, NoSuchWorld, SpanTooLarge, NotMember, ShortBuffer, LetterNotMember}

-- the first element that is no member stands at a place, from 1
pub record FirstStranger (m : Meaning) (v : List ℕ) (place : ℕ) : Type 0 where
  pub index : ℕ
  pub place_is : place ≡ index + 1
  pub within : index < length v
  pub stranger : m.member (slice_index_or v index m.bottom) ≡ false
  pub before : (i : ℕ) → i < index → Member m (slice_index_or v i m.bottom)

-- why the formulas fs are not evaluated into a buffer
abbrev pub Unevaluated : Meaning → List Formula → List ℕ → List ℕ → Refusal → Type 0
Unevaluated m fs v buffer WorldsOutOfRange = ⊥
Unevaluated m fs v buffer (NoSuchWorld pair) = ⊥
Unevaluated m fs v buffer SpanTooLarge = ⊥
Unevaluated m fs v buffer NotMember = ⊥
Unevaluated m fs v buffer ShortBuffer = length buffer < length fs
Unevaluated m fs v buffer (LetterNotMember letter) = (length fs ≤ length buffer) × FirstStranger m v letter

-- the buffer as it was and as it is, and the answer: each formula's value at its place and the rest as it was, or a refusal that changes nothing
abbrev pub Evaluated : Meaning → List Formula → List ℕ → List ℕ → List ℕ → Result Unit Refusal → Type 0
Evaluated m fs v before after (Ok _) = (length fs ≤ length before) × ByMembers m v × (after ≡ put before 0 (map (value m v) fs))
Evaluated m fs v before after (Err refusal) = Unevaluated m fs v before refusal × (after ≡ before)

-- what the formula of a record is worth, from the values of its parts at their places
abbrev pub worth : Meaning → List ℕ → List ℕ → Node → ℕ
worth m v values Falsum = m.bottom
worth m v values (Letter c) = slice_index_or v (c - 97) m.bottom
worth m v values (Joined k i j) = operation m k (slice_index values i) (slice_index values j)

-- a record whose letter is one of 26, and whose parts have members for their values
abbrev pub Ready : Meaning → List ℕ → Node → Type 0
Ready m values Falsum = Unit {0}
Ready m values (Letter c) = (97 ≤ c) × (c ≤ 122)
Ready m values (Joined k i j) = (i < length values) × (j < length values) × Member m (slice_index values i) × Member m (slice_index values j)
