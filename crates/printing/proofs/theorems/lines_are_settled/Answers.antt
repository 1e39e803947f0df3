use Rattle.printing.proofs.Settling.{one_printing}
use Rattle.printing.proofs.theorems.lines_are_settled.Goals as goal

pub returns : goal.returns
returns c = one_printing
