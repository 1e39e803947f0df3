use Rattle.readings.proofs.Settling.{one_reading}
use Rattle.readings.proofs.theorems.inputs_say_one_thing.Goals as goal

pub returns : goal.returns
returns c = one_reading
