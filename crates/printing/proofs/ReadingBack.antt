-- What is printed in a field holds no tab and no byte 10, so a line is read back.
use Rattle.std.proofs.Common.{◌≡◌, ◌≢◌, ℕ, zero, suc, ◌+◌, ◌/◌, ◌%◌, ◌<◌, ◌≤◌, ◌==◌, Bool, true, false, ltb, List, [], ◌∷◌, ◌++◌, map, length, inl, inr, refl, sym, ap, ◌∙◌, subst, append-nil, append_assoc, arith, ltb-true, lt-ltb}
use Rattle.std.specs.Fmt.{decimal, digit_glyph, digits_onto, digits}
use Rattle.std.specs.List.{All, list_all, join_with_byte}
use Rattle.std.proofs.lemmas.Bool.{and_parts, and_from, cases_lt, cond_both}
use Rattle.std.proofs.lemmas.List.{get_or_past}
use Rattle.std.proofs.lemmas.List.Elements.{All-nil, All-cons, All-head, All-tail, All-append}
use Rattle.std.proofs.lemmas.List.Folds.{list_all-append}
use Rattle.grammar.proofs.Measures.{is_text}
use Rattle.grammar.specs.Contents.{formula_at, AllFitting}
use Rattle.grammar.specs.Formula.{Formula}
use Rattle.grammar.specs.Symbols.{sign}
use Rattle.grammar.specs.Texts.{Text}
use Rattle.grammar.specs.Writing.{text_at}
use Rattle.grammar.specs.WrittenText.{text}
use Rattle.grammar.specs.declared.connective.Connective.{Connective}
use Rattle.grammar.specs.declared.connective.Connective.TheVariants.{And, Or, Implies}
use Rattle.fitch.specs.declared.mode.Mode.{Mode}
use Rattle.fitch.specs.declared.mode.Mode.TheVariants.{Constructive, Classical}
use Rattle.ledger.specs.Sequents.{premise_places}
use Rattle.records.proofs.Joining.{records_back, fields_back}
use Rattle.records.specs.Joining.{Lacks, AreRecords}
use Rattle.records.specs.Pieces.{records}
use Rattle.verdicts.specs.declared.verdict.Verdict.{Verdict}
use Rattle.entries.specs.Kinds.{mode_letter}
use Rattle.answers.specs.Faults.{record_of, layer_of, number_of, place_of}
use Rattle.answers.specs.Rows.{row, layer_letter, checked_fields, verdict_fields, fault_fields}
use Rattle.answers.specs.declared.checked.Checked.{Checked}
use Rattle.answers.specs.declared.fault.Fault.{Fault}
use Rattle.answers.specs.declared.fault.Layer.{Layer}
use Rattle.answers.specs.declared.fault.Layer.TheVariants as layers
use Rattle.printing.specs.ReadingBack.{ReadsAs, LinesReadBack}

-- each byte is over 10, so none is a tab or byte 10
abbrev plain : List ℕ → Bool
plain s = list_all (λ b. ltb 10 b) s

abbrev Plain : List ℕ → Type 0
Plain s = plain s ≡ true

lacks : (byte : ℕ) → byte ≤ 10 → (s : List ℕ) → Plain s → Lacks byte s
lacks byte small [] all = All-nil (λ b. b ≢ byte)
lacks byte small (b ∷ s) all =
    let (first, rest) = and_parts (ltb 10 b) (plain s) all in
    All-cons (λ c. c ≢ byte) b s (λ same. omega (arith, ltb-true 10 b first, same, small)) (lacks byte small s rest)

each_lacks : (byte : ℕ) → byte ≤ 10 → (fs : List (List ℕ)) → list_all plain fs ≡ true → All (Lacks byte) fs
each_lacks byte small [] all = All-nil (Lacks byte)
each_lacks byte small (f ∷ fs) all =
    let (first, rest) = and_parts (plain f) (list_all plain fs) all in
    All-cons (Lacks byte) f fs (lacks byte small f first) (each_lacks byte small fs rest)

row_is : (fs : List (List ℕ)) → row fs ≡ join_with_byte 9 fs ++ 10 ∷ []
row_is [] = refl
row_is (f ∷ []) = refl
row_is (f ∷ g ∷ fs) = ap (λ s. f ++ 9 ∷ s) (row_is (g ∷ fs)) ∙ sym (append_assoc f (9 ∷ join_with_byte 9 (g ∷ fs)) (10 ∷ []))

joined_lacks : (fs : List (List ℕ)) → All (Lacks 10) fs → Lacks 10 (join_with_byte 9 fs)
joined_lacks [] all = All-nil (λ b. b ≢ 10)
joined_lacks (f ∷ []) all = All-head (Lacks 10) f [] all
joined_lacks (f ∷ g ∷ fs) all =
    All-append (λ b. b ≢ 10) f (9 ∷ join_with_byte 9 (g ∷ fs)) (All-head (Lacks 10) f (g ∷ fs) all)
    (All-cons (λ b. b ≢ 10) 9 (join_with_byte 9 (g ∷ fs)) (λ same. omega arith) (joined_lacks (g ∷ fs) (All-tail (Lacks 10) f (g ∷ fs) all)))

reads_as : (fs : List (List ℕ)) → 0 < length fs → list_all plain fs ≡ true → ReadsAs fs (row fs)
reads_as fs some all =
    let s = join_with_byte 9 fs in (
      s,
      ap records (row_is fs ∙ sym (append-nil (s ++ 10 ∷ []))) ∙ records_back (AreRecords.more (joined_lacks fs (each_lacks 10 (omega arith) fs all)) AreRecords.none),
      fields_back fs (some, each_lacks 9 (omega arith) fs all),
    )

-- numbers

plain_glyph : (d : ℕ) → ltb 10 (digit_glyph false d) ≡ true
plain_glyph d = lt-ltb 10 (digit_glyph false d) (cond_both (ltb d 10) (48 + d) (87 + d) (λ g. 10 < g) (λ e. omega arith) (λ e. omega arith))

plain_digits : (k n : ℕ) (acc : List ℕ) → Plain acc → Plain (digits_onto k 10 false n acc)
plain_digits zero n acc all = all
plain_digits (suc k) n acc all =
    let g = digit_glyph false (n % 10) in
    let more : Plain (g ∷ acc) = and_from _ _ (plain_glyph (n % 10)) all in
    cond_both (n / 10 == 0) (g ∷ acc) (digits_onto k 10 false (n / 10) (g ∷ acc)) Plain (λ e. more) (λ e. plain_digits k (n / 10) (g ∷ acc) more)

plain_decimal : (n : ℕ) → Plain (decimal n)
unfolding digits
plain_decimal n = plain_digits 64 n [] refl

-- texts

plain_sign : (k : Connective) → ltb 10 (sign k) ≡ true
plain_sign And = refl
plain_sign Or = refl
plain_sign Implies = refl

plain_both : (s t : List ℕ) → Plain s → Plain t → Plain (s ++ t)
plain_both s t first second = list_all-append (λ b. ltb 10 b) s t ∙ and_from _ _ first second

plain_text : {f : Formula} {s : List ℕ} → Text f s → Plain s
plain_text Text.falsum = refl
plain_text (Text.letter {c = c} h) = and_from _ _ (lt-ltb 10 c (omega (arith, h.0))) refl
plain_text (Text.joined {k = k} {s = s} {t = t} x y) = plain_both s (sign k ∷ t ++ 41 ∷ []) (plain_text x) (and_from _ _ (plain_sign k) (plain_both t (41 ∷ []) (plain_text y) refl))
plain_text (Text.negated x) = plain_text x

module _ (fs : List Formula) (fitting : AllFitting fs) where
  plain_at : (p : ℕ) → Plain (text_at fs p)
  plain_at p = elim (cases_lt p (length fs)) [
    | inl stored ↦ plain_text (is_text (formula_at fs p) (fitting p stored).2)
    | inr past ↦ subst (λ f. Plain (text f)) (sym (get_or_past fs p Formula.falsum past)) refl
  ]

  plain_premises : (places : List ℕ) → list_all plain (map (text_at fs) places) ≡ true
  plain_premises [] = refl
  plain_premises (p ∷ places) = and_from _ _ (plain_at p) (plain_premises places)

-- the letters of modes and layers

plain_mode : (m : Mode) → Plain (mode_letter m)
plain_mode Constructive = refl
plain_mode Classical = refl

plain_layer : (l : Layer) → Plain (layer_letter l)
plain_layer layers.Text = refl
plain_layer layers.Formula = refl
plain_layer layers.Derivation = refl
plain_layer layers.Algebra = refl

checked_back : (fs : List Formula) (c : Checked) → AllFitting fs → ReadsAs (checked_fields fs c) (row (checked_fields fs c))
checked_back fs c fitting =
    reads_as (checked_fields fs c) (omega arith)
    (and_from _ _ (plain_mode c.sequent.mode)
    (and_from _ _ (plain_decimal c.lines) (and_from _ _ (plain_at fs fitting c.sequent.conclusion) (plain_premises fs fitting (premise_places c.sequent)))))

verdict_back : (v : Verdict) → ReadsAs (verdict_fields v) (row (verdict_fields v))
verdict_back v =
    reads_as (verdict_fields v) (omega arith)
    (and_from _ _ (cond_both v.holds _ _ Plain (λ e. refl) (λ e. refl)) (and_from _ _ (plain_decimal v.meet) (and_from _ _ (plain_decimal v.conclusion) refl)))

fault_back : (f : Fault) → ReadsAs (fault_fields f) (row (fault_fields f))
fault_back f =
    reads_as (fault_fields f) (omega arith)
    (and_from _ _ (plain_decimal (record_of f))
    (and_from _ _ (plain_layer (layer_of f)) (and_from _ _ (plain_decimal (number_of f)) (and_from _ _ (plain_decimal (place_of f)) refl))))

pub lines_read_back : LinesReadBack
lines_read_back = record { checked = checked_back; verdict = verdict_back; fault = fault_back }
