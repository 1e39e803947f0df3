-- What is still to come of an input, and of a record.
use Rattle.std.specs.Prelude.{ℕ, ◌==◌, List, [], Some, None, Option}
use Rattle.std.specs.List.{slice_split}
use denote.Ref.{Bor}
use Rattle.records.specs.Pieces.{Piece, records}
use Rattle.records.specs.declared.fields.Fields.{Fields}
use Rattle.records.specs.declared.records.Records.{Records}
use Rattle.records.specs.declared.records.Record.{Record}

-- what is left, cut at each such byte; nothing, once the last run was taken
abbrev pub left : ℕ → Option (Bor (List ℕ)) → List (List ℕ)
left byte None = []
left byte (Some s) = slice_split (λ b. b == byte) s.now

abbrev pub fields_to_come : Fields → List (List ℕ)
fields_to_come f = left 9 f.rest

abbrev pub records_to_come : Records → List Piece
records_to_come r = records r.rest.now

abbrev pub piece : Record → Piece
piece r = (r.bytes.now, r.ended)
