-- Writing a line has one answer.
use Rattle.std.specs.Prelude.{◌≡◌, ℕ, List, Result}
use Rattle.grammar.specs.Formula.{Formula}
use Rattle.grammar.specs.declared.refusal.Refusal.{Refusal}
use Rattle.verdicts.specs.Weighing.{Stored}
use Rattle.answers.specs.Rows.{checked_row}
use Rattle.answers.specs.declared.checked.Checked.{Checked}
use Rattle.printing.specs.Printing.{Printed}

-- of what a proof file shows, and of a line that tells of no place: no two answers, and no two buffers after them
pub record OnePrinting : Type 0 where
  pub checked :
      (fs : List Formula) (c : Checked) (before x y : List ℕ) (a b : Result ℕ Refusal)
      → Printed (Stored fs c.sequent) (checked_row fs c) before x a → Printed (Stored fs c.sequent) (checked_row fs c) before y b → (a ≡ b) × (x ≡ y)
  pub of_no_place :
      (line before x y : List ℕ) (a b : Result ℕ Refusal) → Printed (Unit {0}) line before x a → Printed (Unit {0}) line before y b → (a ≡ b) × (x ≡ y)
