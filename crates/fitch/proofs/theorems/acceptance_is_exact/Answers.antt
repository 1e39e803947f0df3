use Rattle.fitch.proofs.Answering.{exact_acceptance}
use Rattle.fitch.proofs.theorems.acceptance_is_exact.Goals as goal

pub returns : goal.returns
returns c = exact_acceptance
