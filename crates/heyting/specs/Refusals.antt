-- The number and the place by which a refusal is told.
use Rattle.std.specs.Prelude.{ℕ}
use Rattle.heyting.specs.declared.refusal.Refusal.{Refusal}
use Rattle.heyting.specs.declared.refusal.Refusal.TheVariants.{WorldsOutOfRange, NoSuchWorld, SpanTooLarge, NotMember, ShortBuffer, LetterNotMember}

abbrev pub number_of : Refusal → ℕ
number_of WorldsOutOfRange = 19
number_of (NoSuchWorld pair) = 20
number_of SpanTooLarge = 23
number_of NotMember = 24
number_of ShortBuffer = 25
number_of (LetterNotMember letter) = 26

-- the first bad pair or letter, from 1; every other refusal has 0
abbrev pub place_of : Refusal → ℕ
place_of WorldsOutOfRange = 0
place_of (NoSuchWorld pair) = pair
place_of SpanTooLarge = 0
place_of NotMember = 0
place_of ShortBuffer = 0
place_of (LetterNotMember letter) = letter
