use Rattle.std.proofs.Common.{◌≡◌, ◌+◌, length}
use Rattle.records.specs.Cursors.{records_to_come}
use Rattle.records.proofs.records.Records.count.Given as goal

abbrev pub invariant-loop-count : goal.invariant-loop-count
invariant-loop-count l = l.count + length (records_to_come l.rest) ≡ length (records_to_come l.fn.self)

abbrev pub decreases-loop-count : goal.decreases-loop-count
decreases-loop-count l = length (records_to_come l.rest)
