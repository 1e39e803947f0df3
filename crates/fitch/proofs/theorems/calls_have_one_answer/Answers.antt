use Rattle.fitch.proofs.Answering.{one_answers}
use Rattle.fitch.proofs.theorems.calls_have_one_answer.Goals as goal

pub returns : goal.returns
returns c = one_answers
