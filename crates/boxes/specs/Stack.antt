-- The open boxes of a table, innermost first.
use Rattle.std.specs.Prelude.{List}
use Rattle.fitch.specs.Records.{Reach}
use Rattle.ledger.specs.Stack.{stacked}
use Rattle.boxes.specs.declared.boxes.Boxes.{Boxes}

abbrev pub stack : Boxes → List Reach
stack b = stacked b.table b.depth
