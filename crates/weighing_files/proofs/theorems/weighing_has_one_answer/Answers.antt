use Rattle.weighing_files.proofs.Settling.{one_weighing}
use Rattle.weighing_files.proofs.theorems.weighing_has_one_answer.Goals as goal

pub returns : goal.returns
returns c = one_weighing
