-- A text is written in front of what is written behind it.
use Rattle.std.proofs.Common.{◌≡◌, ℕ, ◌+◌, ◌<◌, min, List, [], ◌∷◌, ◌++◌, length, drop, Ok, sym, ap, ◌∙◌, append_assoc, arith, length-append, length-drop}
use Rattle.std.proofs.lemmas.List.{drop-drop}
use Rattle.answers.specs.Rows.{after_tabs}
use Rattle.printing.specs.Printing.{Printed}

pub after_tabs_long : (fields : List (List ℕ)) → 0 < length (after_tabs fields)
after_tabs_long [] = omega arith
after_tabs_long (f ∷ fields) = omega arith

-- behind a text of length n, or in nothing where it does not fit, some line is written
module _ (StoredBehind : Type 0) (line before rest after : List ℕ) (n at m : ℕ) (here : at ≡ min n (length before)) (cut : rest ≡ drop at before) (some : 0 < length line) (behind : Printed StoredBehind line rest after (Ok m)) where
  -- so the text fits
  pub fits : at ≡ n
  fits = omega (arith, behind.1, behind.2, ap length cut, length-drop at before)

  pub written : (Stored : Type 0) (text front : List ℕ) → (StoredBehind → Stored) → n ≡ length text → front ≡ text → Printed Stored (text ++ line) before (front ++ after) (Ok (n + m))
  written Stored text front whole long is =
      let left : drop (0 + length line) rest ≡ drop (0 + length (text ++ line)) before =
      ap (drop (0 + length line)) cut ∙ drop-drop (0 + length line) at before ∙ ap (λ i. drop i before) (omega (arith, fits, length-append text line)) in (
        whole behind.0,
        omega (arith, behind.1, length-append text line),
        omega (arith, fits, behind.2, ap length cut, length-drop at before),
        ap (λ l. l ++ after) is ∙ ap (λ l. text ++ l) behind.3 ∙ ap (λ l. text ++ (line ++ l)) left ∙ sym (append_assoc text line (drop (0 + length (text ++ line)) before)),
      )
