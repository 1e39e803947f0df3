use Rattle.grammar.proofs.Records.{one_making}
use Rattle.grammar.proofs.theorems.formulas_are_made_one_way.Goals as goal

pub returns : goal.returns
returns c = one_making
