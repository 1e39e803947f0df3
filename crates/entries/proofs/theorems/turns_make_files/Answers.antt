use Rattle.entries.proofs.Turning.{turns_of_files}
use Rattle.entries.proofs.theorems.turns_make_files.Goals as goal

pub returns : goal.returns
returns c = turns_of_files
