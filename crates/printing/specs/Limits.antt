-- How long a line can be.
use Rattle.std.specs.Prelude.{ℕ}

-- `OK`, a mode, a number of at most 20 digits, a conclusion and 32 premises of at most 1,024 bytes, each behind a tab, and byte 10
abbrev pub longest_line : ℕ
longest_line = 33851
