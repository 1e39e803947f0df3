-- A table of open boxes as a stack, innermost first.
use Rattle.std.specs.Prelude.{ℕ, zero, suc, List, [], ◌∷◌, slice_index_or}
use Rattle.fitch.specs.Records.{Reach}
use Rattle.ledger.specs.declared.open_box.OpenBox.{OpenBox}

abbrev pub reach : OpenBox → Reach
reach b = record { first = b.first; end = b.end }

-- a box at its first line
abbrev pub fresh_box : ℕ → Reach
fresh_box n = record { first = n; end = n }

abbrev pub no_box : OpenBox
no_box = record { first = 0; end = 0 }

-- the first boxes of a table, the last of them innermost
abbrev pub stacked : List OpenBox → ℕ → List Reach
stacked bs zero = []
stacked bs (suc d) = reach (slice_index_or bs d no_box) ∷ stacked bs d
