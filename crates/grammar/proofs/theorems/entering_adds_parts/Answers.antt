use Rattle.grammar.proofs.Adding.{entering_laws}
use Rattle.grammar.proofs.theorems.entering_adds_parts.Goals as goal

pub returns : goal.returns
returns c = entering_laws
