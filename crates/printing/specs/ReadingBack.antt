-- Printed lines are taken apart as files are.
use Rattle.std.specs.Prelude.{◌≡◌, ℕ, true, List, [], ◌∷◌}
use Rattle.grammar.specs.Contents.{AllFitting}
use Rattle.grammar.specs.Formula.{Formula}
use Rattle.records.specs.Pieces.{fields, records}
use Rattle.verdicts.specs.declared.verdict.Verdict.{Verdict}
use Rattle.answers.specs.Rows.{checked_fields, verdict_fields, fault_fields, checked_row, verdict_row, fault_row}
use Rattle.answers.specs.declared.checked.Checked.{Checked}
use Rattle.answers.specs.declared.fault.Fault.{Fault}

-- a line is one record, which byte 10 ends, and these are its fields
abbrev pub ReadsAs : List (List ℕ) → List ℕ → Type 0
ReadsAs fs line = (s : List ℕ) × (records line ≡ (s, true) ∷ []) × (fields s ≡ fs)

-- each line has the fields that were printed; one with texts of formulas, where these are such as a store holds
pub record LinesReadBack : Type 0 where
  pub checked : (fs : List Formula) (c : Checked) → AllFitting fs → ReadsAs (checked_fields fs c) (checked_row fs c)
  pub verdict : (v : Verdict) → ReadsAs (verdict_fields v) (verdict_row v)
  pub fault : (f : Fault) → ReadsAs (fault_fields f) (fault_row f)
