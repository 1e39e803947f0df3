-- No line is longer than the longest.
use Rattle.std.proofs.Common.{◌≡◌, ℕ, suc, ◌+◌, ◌*◌, ◌≤◌, List, [], ◌∷◌, map, length, refl, ap, arith, length-append}
use Rattle.std.proofs.lemmas.List.{length-take}
use Rattle.std.specs.Fmt.{decimal}
use Rattle.grammar.specs.Contents.{AllFitting}
use Rattle.grammar.specs.Formula.{Formula}
use Rattle.grammar.specs.Writing.{text_at}
use Rattle.fitch.specs.declared.mode.Mode.{Mode}
use Rattle.fitch.specs.declared.mode.Mode.TheVariants.{Constructive, Classical}
use Rattle.ledger.specs.Sequents.{premise_places}
use Rattle.verdicts.specs.Weighing.{AllBelow, Stored}
use Rattle.entries.specs.Kinds.{mode_letter}
use Rattle.answers.specs.Rows.{after_tabs, checked_row}
use Rattle.answers.specs.declared.checked.Checked.{Checked}
use Rattle.printing.specs.Limits.{longest_line}

behind : (f : List ℕ) (fields : List (List ℕ)) → length (after_tabs (f ∷ fields)) ≡ suc (length f + length (after_tabs fields))
behind f fields = ap suc (length-append f (after_tabs fields))

one_mode_letter : (m : Mode) → length (mode_letter m) ≡ 1
one_mode_letter Constructive = refl
one_mode_letter Classical = refl

module _ (fs : List Formula) (fitting : AllFitting fs) where
  texts : (places : List ℕ) → AllBelow places (length fs) → length (after_tabs (map (text_at fs) places)) ≤ 1 + 1025 * length places
  texts [] below = omega arith
  texts (p ∷ places) below =
      let short : length (text_at fs p) ≤ 1024 = (fitting p (below 0 (omega arith))).1 in
      omega (arith, short, behind (text_at fs p) (map (text_at fs) places), texts places (λ k lt. below (suc k) (omega (arith, lt))))

  pub checked_room : (c : Checked) → length (decimal c.lines) ≤ 20 → Stored fs c.sequent → length (checked_row fs c) ≤ longest_line
  checked_room c number stored =
      let s = c.sequent in
      let premises = map (text_at fs) (premise_places s) in
      let short : length (text_at fs s.conclusion) ≤ 1024 = (fitting s.conclusion stored.conclusion).1 in
      let few : length (premise_places s) ≤ 32 = omega (arith, s.few, length-take s.count s.places) in
      omega (
        arith,
        short,
        few,
        one_mode_letter s.mode,
        number,
        texts (premise_places s) stored.premises,
        behind (mode_letter s.mode) (decimal c.lines ∷ text_at fs s.conclusion ∷ premises),
        behind (decimal c.lines) (text_at fs s.conclusion ∷ premises),
        behind (text_at fs s.conclusion) premises,
      )
