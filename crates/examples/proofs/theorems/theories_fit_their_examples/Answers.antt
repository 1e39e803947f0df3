use Rattle.grammar.proofs.Examples.{examples as reading_examples}
use Rattle.heyting.proofs.Examples.{examples as algebra_examples}
use Rattle.fitch.proofs.Examples.{inner_box, inner_box_answered}
use Rattle.examples.proofs.theorems.theories_fit_their_examples.Goals as goal

pub returns : goal.returns
returns c = record { reading = reading_examples; inner_box = inner_box; inner_box_answered = inner_box_answered; algebras = algebra_examples }
