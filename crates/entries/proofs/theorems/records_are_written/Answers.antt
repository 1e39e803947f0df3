use Rattle.entries.proofs.Writing.{records_are_written}
use Rattle.entries.proofs.theorems.records_are_written.Goals as goal

pub returns : goal.returns
returns c = records_are_written
