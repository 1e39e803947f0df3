-- The limits of texts and stores.
use Rattle.std.specs.Prelude.{ℕ}

-- the bytes of a text that is read
abbrev pub most_bytes : ℕ
most_bytes = 1024

-- the nesting of a formula that is read
abbrev pub most_nesting : ℕ
most_nesting = 32

-- # and the letters take a record each
abbrev pub least_records : ℕ
least_records = 27

-- the records of a store that are used
abbrev pub most_records : ℕ
most_records = 4096
