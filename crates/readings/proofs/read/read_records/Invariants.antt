use Rattle.std.proofs.Common.{◌≡◌, ◌+◌, length}
use Rattle.formulas.specs.Stores.{capacity, contents, OthersStay}
use Rattle.records.specs.Cursors.{records_to_come}
use Rattle.records.specs.Pieces.{records}
use Rattle.readings.proofs.Going.{SoFar, KeptTo, front}
use Rattle.readings.proofs.read.read_records.Given as goal

abbrev pub invariant-loop-source : goal.invariant-loop-source
invariant-loop-source l = record {
  stay : OthersStay l.fn.store l.store;
  left : l.count + length (records_to_come l.rest) ≡ length (records l.input);
  keeps : KeptTo l.count l.fn.entries l.entries;
  so_far : SoFar (capacity l.fn.store) l.format l.input (contents l.fn.store) l.turn l.count (front l.count l.entries) (records_to_come l.rest) (contents l.store);
}

abbrev pub decreases-loop-source : goal.decreases-loop-source
decreases-loop-source l = length (records_to_come l.rest)
