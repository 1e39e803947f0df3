use Rattle.grammar.proofs.Readings.{one_answer}
use Rattle.grammar.proofs.theorems.reading_has_one_answer.Goals as goal

pub returns : goal.returns
returns c = one_answer
