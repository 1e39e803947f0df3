use Rattle.answer_lines.proofs.Settling.{one_line}
use Rattle.answer_lines.proofs.theorems.inputs_have_one_line.Goals as goal

pub returns : goal.returns
returns c = one_line
