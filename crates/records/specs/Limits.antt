-- The limits of files.
use Rattle.std.specs.Prelude.{ℕ}

abbrev pub most_input : ℕ
most_input = 65536

abbrev pub most_digits : ℕ
most_digits = 5
