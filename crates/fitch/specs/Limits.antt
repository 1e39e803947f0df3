-- The limits of derivations.
use Rattle.std.specs.Prelude.{ℕ}

abbrev pub most_premises : ℕ
most_premises = 32

-- the line records that are used
abbrev pub most_lines : ℕ
most_lines = 1024

-- the boxes that are open together
abbrev pub most_boxes : ℕ
most_boxes = 16
