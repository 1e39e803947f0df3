use Rattle.std.proofs.Common.{length}
use Rattle.printing.proofs.ending.+write_formulas.Given as goal

abbrev pub decreases-write_formulas : goal.decreases-write_formulas
decreases-write_formulas l = length l.places.now
