use Rattle.readings.proofs.Turning.{all_in_turn}
use Rattle.readings.proofs.theorems.inputs_come_in_turn.Goals as goal

pub returns : goal.returns
returns c = all_in_turn
