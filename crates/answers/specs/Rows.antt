-- The line that is printed for an answer.
use Rattle.std.specs.Prelude.{ℕ, if◌then◌else◌, List, [], ◌∷◌, ◌++◌, map, codes}
use Rattle.std.specs.Fmt.{decimal}
use Rattle.grammar.specs.Formula.{Formula}
use Rattle.grammar.specs.Writing.{text_at}
use Rattle.ledger.specs.Sequents.{premise_places}
use Rattle.verdicts.specs.declared.verdict.Verdict.{Verdict}
use Rattle.entries.specs.Kinds.{mode_letter}
use Rattle.answers.specs.Faults.{record_of, layer_of, number_of, place_of}
use Rattle.answers.specs.declared.checked.Checked.{Checked}
use Rattle.answers.specs.declared.fault.Fault.{Fault}
use Rattle.answers.specs.declared.fault.Layer.{Layer}
use Rattle.answers.specs.declared.fault.Layer.TheVariants as layers

-- fields, each behind a tab, and byte 10
abbrev pub after_tabs : List (List ℕ) → List ℕ
after_tabs [] = 10 ∷ []
after_tabs (f ∷ fs) = 9 ∷ f ++ after_tabs fs

-- fields parted by tabs, and byte 10
abbrev pub row : List (List ℕ) → List ℕ
row [] = 10 ∷ []
row (f ∷ fs) = f ++ after_tabs fs

abbrev pub layer_letter : Layer → List ℕ
layer_letter layers.Text = codes "T"
layer_letter layers.Formula = codes "F"
layer_letter layers.Derivation = codes "D"
layer_letter layers.Algebra = codes "A"

-- what a proof file shows, over the formulas of the store
abbrev pub checked_fields : List Formula → Checked → List (List ℕ)
checked_fields fs c = codes "OK" ∷ mode_letter c.sequent.mode ∷ decimal c.lines ∷ text_at fs c.sequent.conclusion ∷ map (text_at fs) (premise_places c.sequent)

abbrev pub verdict_fields : Verdict → List (List ℕ)
verdict_fields v = (if v.holds then codes "HOLDS" else codes "FAILS") ∷ decimal v.meet ∷ decimal v.conclusion ∷ []

abbrev pub fault_fields : Fault → List (List ℕ)
fault_fields f = codes "NO" ∷ decimal (record_of f) ∷ layer_letter (layer_of f) ∷ decimal (number_of f) ∷ decimal (place_of f) ∷ []

abbrev pub checked_row : List Formula → Checked → List ℕ
checked_row fs c = row (checked_fields fs c)

abbrev pub verdict_row : Verdict → List ℕ
verdict_row v = row (verdict_fields v)

abbrev pub fault_row : Fault → List ℕ
fault_row f = row (fault_fields f)
