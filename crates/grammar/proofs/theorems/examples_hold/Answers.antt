use Rattle.grammar.proofs.Examples.{examples}
use Rattle.grammar.proofs.theorems.examples_hold.Goals as goal

pub returns : goal.returns
returns c = examples
