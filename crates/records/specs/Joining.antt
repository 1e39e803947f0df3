-- Records make an input, and fields make a record.
use Rattle.std.specs.Prelude.{◌≡◌, ◌≢◌, ◌↔◌, ℕ, ◌<◌, true, false, All, List, [], ◌∷◌, ◌++◌, map, length}
use Rattle.std.specs.List.{concat, join_with_byte}
use Rattle.records.specs.Pieces.{Piece, fields, records}

-- the byte stands nowhere in s
abbrev pub Lacks : ℕ → List ℕ → Type 0
Lacks byte s = All (λ b. b ≢ byte) s

-- a record and the byte 10 that ends it, if it is there
abbrev pub bytes_of : Piece → List ℕ
bytes_of (s, true) = s ++ 10 ∷ []
bytes_of (s, false) = s

-- records, one after the other
abbrev pub input_of : List Piece → List ℕ
input_of ps = concat (map bytes_of ps)

-- no record holds byte 10; one that it does not end is the last, and not empty
pub data AreRecords : List Piece → Type 0 where
  none : AreRecords []
  last : {s : List ℕ} → Lacks 10 s → 0 < length s → AreRecords ((s, false) ∷ [])
  more : {s : List ℕ} {ps : List Piece} → Lacks 10 s → AreRecords ps → AreRecords ((s, true) ∷ ps)

-- there is a field, and none holds a tab
abbrev pub AreFields : List (List ℕ) → Type 0
AreFields fs = (0 < length fs) × All (Lacks 9) fs

-- an input's records are those that make it, one after the other, and a record's fields are those that make it, with tabs between
pub record PiecesMakeInputs : Type 0 where
  pub of_input : (s : List ℕ) (ps : List Piece) → (records s ≡ ps) ↔ ((input_of ps ≡ s) × AreRecords ps)
  pub of_record : (s : List ℕ) (fs : List (List ℕ)) → (fields s ≡ fs) ↔ ((join_with_byte 9 fs ≡ s) × AreFields fs)
