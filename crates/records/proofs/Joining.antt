-- Records joined are their input, and fields joined their record; and no others are.
use Rattle.std.proofs.Common.{◌≡◌, ◌≢◌, ℕ, ◌<◌, true, false, ◌==◌, List, [], ◌∷◌, ◌++◌, length, refl, sym, ap, ◌∙◌, subst, inl, inr, append-nil, append_assoc, arith, ne_eqb, eq-eqb}
use Rattle.std.specs.List.{slice_split, onto_first, All, join_with_byte}
use Rattle.std.proofs.lemmas.Bool.{cases_Bool, eqb-false}
use Rattle.std.proofs.lemmas.List.Elements.{All-nil, All-cons, All-head, All-tail, All-weaker}
use Rattle.std.proofs.lemmas.List.Splits.{slice_split-cons_yes, slice_split-cons_no, slice_split_none, slice_split_at, length-slice_split, join_with_byte-slice_split}
use Rattle.records.specs.Pieces.{Piece, ended, last_piece, fields, records}
use Rattle.records.specs.Joining.{Lacks, input_of, AreRecords, AreFields, PiecesMakeInputs}
use Rattle.records.proofs.Cutting.{first_ended, only_record}

module _ (byte : ℕ) where
  abbrev cut : List ℕ → List (List ℕ)
  cut s = slice_split (λ b. b == byte) s

  none_passes : (s : List ℕ) → Lacks byte s → All (λ b. (b == byte) ≡ false) s
  none_passes s lacks = All-weaker (λ b. b ≢ byte) (λ b. (b == byte) ≡ false) (λ b ne. ne_eqb b byte ne) s lacks

  onto_first_lacks : (b : ℕ) (parts : List (List ℕ)) → b ≢ byte → All (Lacks byte) parts → All (Lacks byte) (onto_first b parts)
  onto_first_lacks b [] ne all = All-cons (Lacks byte) (b ∷ []) [] (All-cons (λ c. c ≢ byte) b [] ne (All-nil (λ c. c ≢ byte))) (All-nil (Lacks byte))
  onto_first_lacks b (p ∷ ps) ne all =
      All-cons (Lacks byte) (b ∷ p) ps (All-cons (λ c. c ≢ byte) b p ne (All-head (Lacks byte) p ps all)) (All-tail (Lacks byte) p ps all)

  parts_lack : (s : List ℕ) → All (Lacks byte) (cut s)
  parts_lack [] = All-cons (Lacks byte) [] [] (All-nil (λ c. c ≢ byte)) (All-nil (Lacks byte))
  parts_lack (b ∷ s) = elim (cases_Bool (b == byte)) [
    | inl same ↦ subst (All (Lacks byte)) (sym (slice_split-cons_yes (λ c. c == byte) b s same)) (All-cons (Lacks byte) [] (cut s) (All-nil (λ c. c ≢ byte)) (parts_lack s))
    | inr other ↦
        subst (All (Lacks byte)) (sym (slice_split-cons_no (λ c. c == byte) b s other))
        (onto_first_lacks b (cut s) (eqb-false b byte other) (parts_lack s))
  ]

  -- what is joined by the byte is cut there again
  cut_joined : (parts : List (List ℕ)) → 0 < length parts → All (Lacks byte) parts → cut (join_with_byte byte parts) ≡ parts
  cut_joined [] some all = absurd (omega (arith, some))
  cut_joined (p ∷ []) some all = slice_split_none (λ b. b == byte) p (none_passes p (All-head (Lacks byte) p [] all))
  cut_joined (p ∷ q ∷ ps) some all =
      slice_split_at (λ b. b == byte) p byte (join_with_byte byte (q ∷ ps)) (none_passes p (All-head (Lacks byte) p (q ∷ ps) all)) (eq-eqb byte byte refl)
      ∙ ap (λ parts. p ∷ parts) (cut_joined (q ∷ ps) (omega arith) (All-tail (Lacks byte) p (q ∷ ps) all))

-- the runs between bytes 10 make the records, and these the input
last_makes : (s : List ℕ) → input_of (last_piece s) ≡ s
last_makes [] = refl
last_makes (b ∷ s) = append-nil (b ∷ s)

ended_make : (parts : List (List ℕ)) → input_of (ended parts) ≡ join_with_byte 10 parts
ended_make [] = refl
ended_make (p ∷ []) = last_makes p
ended_make (p ∷ q ∷ ps) = append_assoc p (10 ∷ []) (input_of (ended (q ∷ ps))) ∙ ap (λ s. p ++ 10 ∷ s) (ended_make (q ∷ ps))

last_is : (s : List ℕ) → Lacks 10 s → AreRecords (last_piece s)
last_is [] lacks = AreRecords.none
last_is (b ∷ s) lacks = AreRecords.last lacks (omega arith)

ended_are : (parts : List (List ℕ)) → All (Lacks 10) parts → AreRecords (ended parts)
ended_are [] all = AreRecords.none
ended_are (p ∷ []) all = last_is p (All-head (Lacks 10) p [] all)
ended_are (p ∷ q ∷ ps) all = AreRecords.more (All-head (Lacks 10) p (q ∷ ps) all) (ended_are (q ∷ ps) (All-tail (Lacks 10) p (q ∷ ps) all))

-- records are read back from the input that they make
pub records_back : {ps : List Piece} → AreRecords ps → records (input_of ps) ≡ ps
records_back AreRecords.none = refl
records_back (AreRecords.last {s = s} lacks some) =
    ap records (append-nil s) ∙ only_record s some (slice_split_none (λ b. b == 10) s (none_passes 10 s lacks))
records_back (AreRecords.more {s = s} {ps = ps} lacks rest) =
    ap records (append_assoc s (10 ∷ []) (input_of ps))
    ∙ first_ended (s ++ 10 ∷ input_of ps) s (input_of ps) (slice_split_at (λ b. b == 10) s 10 (input_of ps) (none_passes 10 s lacks) refl)
    ∙ ap (λ qs. (s, true) ∷ qs) (records_back rest)

pub fields_back : (fs : List (List ℕ)) → AreFields fs → fields (join_with_byte 9 fs) ≡ fs
fields_back fs are = cut_joined 9 fs are.0 are.1

records_make : (s : List ℕ) → (input_of (records s) ≡ s) × AreRecords (records s)
records_make s = (ended_make (cut 10 s) ∙ join_with_byte-slice_split 10 s, ended_are (cut 10 s) (parts_lack 10 s))

fields_make : (s : List ℕ) → (join_with_byte 9 (fields s) ≡ s) × AreFields (fields s)
fields_make s = (join_with_byte-slice_split 9 s, (omega (arith, length-slice_split (λ b. b == 9) s), parts_lack 9 s))

pub pieces_make_inputs : PiecesMakeInputs
pieces_make_inputs = record {
  of_input = λ s ps. (λ e. subst (λ qs. (input_of qs ≡ s) × AreRecords qs) e (records_make s), λ h. subst (λ t. records t ≡ ps) h.0 (records_back h.1));
  of_record = λ s fs. (λ e. subst (λ gs. (join_with_byte 9 gs ≡ s) × AreFields gs) e (fields_make s), λ h. subst (λ t. fields t ≡ fs) h.0 (fields_back fs h.1));
}
