use Rattle.fitch.proofs.Examples.{inner_box, inner_box_answered}
use Rattle.fitch.proofs.theorems.inner_boxes_do_not_count.Goals as goal

pub returns : goal.returns
returns c = record { permits = inner_box; answers = inner_box_answered }
