use Rattle.heyting.proofs.Layer.{double_negations}
use Rattle.heyting.proofs.theorems.layer_values_are_double_negations.Goals as goal

pub returns : goal.returns
returns c = double_negations
