use Rattle.grammar.proofs.Unambiguity.{unambiguous}
use Rattle.grammar.proofs.theorems.texts_are_unambiguous.Goals as goal

pub returns : goal.returns
returns c = unambiguous
