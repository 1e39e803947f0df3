use Rattle.scripts.proofs.Showing.{one_derivation}
use Rattle.scripts.proofs.theorems.derivations_are_settled.Goals as goal

pub returns : goal.returns
returns c = one_derivation
