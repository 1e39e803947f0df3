use Rattle.records.proofs.Joining.{pieces_make_inputs}
use Rattle.records.proofs.theorems.pieces_make_inputs.Goals as goal

pub returns : goal.returns
returns c = pieces_make_inputs
