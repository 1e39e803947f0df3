use Rattle.printing.proofs.ReadingBack.{lines_read_back}
use Rattle.printing.proofs.theorems.lines_read_back.Goals as goal

pub returns : goal.returns
returns c = lines_read_back
