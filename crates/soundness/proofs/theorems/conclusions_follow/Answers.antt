use Rattle.soundness.proofs.Sound.{conclusions_follow_lem}
use Rattle.soundness.proofs.theorems.conclusions_follow.Goals as goal

pub returns : goal.returns
returns c = conclusions_follow_lem
