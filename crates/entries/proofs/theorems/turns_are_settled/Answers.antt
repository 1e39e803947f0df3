use Rattle.entries.proofs.Places.{settled}
use Rattle.entries.proofs.theorems.turns_are_settled.Goals as goal

pub returns : goal.returns
returns c = settled
