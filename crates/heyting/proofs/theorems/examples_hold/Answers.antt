use Rattle.heyting.proofs.Examples.{examples}
use Rattle.heyting.proofs.theorems.examples_hold.Goals as goal

pub returns : goal.returns
returns c = examples
