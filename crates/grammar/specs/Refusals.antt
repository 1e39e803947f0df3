-- The number and the place by which a refusal is told.
use Rattle.std.specs.Prelude.{ℕ}
use Rattle.grammar.specs.declared.refusal.Refusal.{Refusal}
use Rattle.grammar.specs.declared.refusal.Refusal.TheVariants.{FewRecords, LongText, NotFormula, DeepFormula, RecordsWanting, ShortBuffer, NotStored}

abbrev pub number_of : Refusal → ℕ
number_of FewRecords = 1
number_of LongText = 2
number_of (NotFormula i) = 3
number_of DeepFormula = 4
number_of RecordsWanting = 5
number_of ShortBuffer = 6
number_of NotStored = 7

-- the first wrong place of a text that is no formula's; every other refusal has 0
abbrev pub place_of : Refusal → ℕ
place_of FewRecords = 0
place_of LongText = 0
place_of (NotFormula i) = i
place_of DeepFormula = 0
place_of RecordsWanting = 0
place_of ShortBuffer = 0
place_of NotStored = 0
