use Rattle.algebra_files.proofs.Agreeing.{settled}
use Rattle.algebra_files.proofs.theorems.files_are_settled.Goals as goal

pub returns : goal.returns
returns c = settled
