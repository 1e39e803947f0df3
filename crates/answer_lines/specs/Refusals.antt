-- The number and the place by which it is told why no line is printed.
use Rattle.std.specs.Prelude.{ℕ}
use Rattle.answer_lines.specs.declared.unprinted.Unprinted.{Unprinted}
use Rattle.answer_lines.specs.declared.unprinted.Unprinted.TheVariants.{ShortEntries, ShortValues, ShortBuffer}

abbrev pub number_of : Unprinted → ℕ
number_of ShortEntries = 6
number_of ShortValues = 25
number_of ShortBuffer = 6

abbrev pub place_of : Unprinted → ℕ
place_of ShortEntries = 0
place_of ShortValues = 0
place_of ShortBuffer = 0
