-- A line is written, or refused by one refusal.
use Rattle.std.proofs.Common.{◌≡◌, ℕ, ◌≤◌, ◌⊎◌, inl, inr, List, length, Ok, Err, Result, refl, sym, ap, ◌∙◌, arith}
use Rattle.grammar.specs.declared.refusal.Refusal.{Refusal}
use Rattle.grammar.specs.declared.refusal.Refusal.TheVariants.{FewRecords, LongText, NotFormula, DeepFormula, RecordsWanting, ShortBuffer, NotStored}
use Rattle.verdicts.specs.Weighing.{Stored}
use Rattle.answers.specs.Rows.{checked_row}
use Rattle.printing.specs.Printing.{NotPrinted, Printed}
use Rattle.printing.specs.Settled.{OnePrinting}

module _ (Held : Type 0) (line before : List ℕ) where
  why : (e : Refusal) → NotPrinted Held line before e → ((e ≡ ShortBuffer) × Held) ⊎ ((e ≡ NotStored) × (Held → ⊥))
  why FewRecords p = absurd p
  why LongText p = absurd p
  why (NotFormula i) p = absurd p
  why DeepFormula p = absurd p
  why RecordsWanting p = absurd p
  why ShortBuffer p = inl (refl, p.0)
  why NotStored p = inr (refl, p)

  one_refusal : (e d : Refusal) → NotPrinted Held line before e → NotPrinted Held line before d → e ≡ d
  one_refusal e d p q = same (why e p) (why d q)
    where
      same : ((e ≡ ShortBuffer) × Held) ⊎ ((e ≡ NotStored) × (Held → ⊥)) → ((d ≡ ShortBuffer) × Held) ⊎ ((d ≡ NotStored) × (Held → ⊥)) → e ≡ d
      same (inl a) (inl b) = a.0 ∙ sym b.0
      same (inl a) (inr b) = absurd (b.1 a.1)
      same (inr a) (inl b) = absurd (a.1 b.1)
      same (inr a) (inr b) = a.0 ∙ sym b.0

  written_or_not : (e : Refusal) → NotPrinted Held line before e → Held → length line ≤ length before → ⊥
  written_or_not FewRecords p held le = p
  written_or_not LongText p held le = p
  written_or_not (NotFormula i) p held le = p
  written_or_not DeepFormula p held le = p
  written_or_not RecordsWanting p held le = p
  written_or_not ShortBuffer p held le = omega (arith, p.1, le)
  written_or_not NotStored p held le = p held

  one_answer : (x y : List ℕ) (a b : Result ℕ Refusal) → Printed Held line before x a → Printed Held line before y b → (a ≡ b) × (x ≡ y)
  one_answer x y (Ok n) (Ok m) p q = (ap (λ k. Ok k) (p.1 ∙ sym q.1), p.3 ∙ sym q.3)
  one_answer x y (Ok n) (Err e) p q = absurd (written_or_not e q.0 p.0 (omega (arith, p.1, p.2)))
  one_answer x y (Err e) (Ok m) p q = absurd (written_or_not e p.0 q.0 (omega (arith, q.1, q.2)))
  one_answer x y (Err e) (Err d) p q = (ap (λ w. Err w) (one_refusal e d p.0 q.0), p.1 ∙ sym q.1)

pub one_printing : OnePrinting
one_printing = record { checked = λ fs c. one_answer (Stored fs c.sequent) (checked_row fs c); of_no_place = one_answer Unit }
