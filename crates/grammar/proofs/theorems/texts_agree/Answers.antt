use Rattle.grammar.proofs.Measures.{text_laws}
use Rattle.grammar.proofs.theorems.texts_agree.Goals as goal

pub returns : goal.returns
returns c = text_laws
