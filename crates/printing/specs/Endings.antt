-- What ends a line.
use Rattle.std.specs.Prelude.{ℕ, List, [], map, length}
use Rattle.grammar.specs.Writing.{text_at}
use Rattle.formulas.specs.Stores.{contents}
use Rattle.verdicts.specs.Weighing.{AllBelow}
use Rattle.printing.specs.declared.ending.Ending.{Ending}
use Rattle.printing.specs.declared.ending.Ending.TheVariants.{Nothing, Formulas}

-- its last fields
abbrev pub last_fields : Ending → List (List ℕ)
last_fields Nothing = []
last_fields (Formulas store places) = map (text_at (contents store.now)) places.now

-- the places hold formulas
abbrev pub IsStored : Ending → Type 0
IsStored Nothing = Unit {0}
IsStored (Formulas store places) = AllBelow places.now (length (contents store.now))
