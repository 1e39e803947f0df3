-- An input as records, and a record as fields.
use Rattle.std.specs.Prelude.{ℕ, Bool, true, false, ◌==◌, List, [], ◌∷◌}
use Rattle.std.specs.List.{slice_split}

-- fields are parted by tabs
abbrev pub fields : List ℕ → List (List ℕ)
fields s = slice_split (λ b. b == 9) s

-- a record by its bytes, and whether byte 10 ends it
abbrev pub Piece : Type 0
Piece = List ℕ × Bool

abbrev pub last_piece : List ℕ → List Piece
last_piece [] = []
last_piece (b ∷ bs) = (b ∷ bs, false) ∷ []

-- runs between bytes 10: each but the last is a record that is ended; the last is a record, not ended, if it is not empty
abbrev pub ended : List (List ℕ) → List Piece
ended [] = []
ended (p ∷ []) = last_piece p
ended (p ∷ q ∷ ps) = (p, true) ∷ ended (q ∷ ps)

abbrev pub records : List ℕ → List Piece
records s = ended (slice_split (λ b. b == 10) s)
