use Rattle.checking.proofs.Settling.{one_checking}
use Rattle.checking.proofs.theorems.checking_has_one_answer.Goals as goal

pub returns : goal.returns
returns c = one_checking
