use Rattle.std.proofs.Common.{◌-◌, length}
use Rattle.scanner.proofs.scan.+scan.Given as goal

abbrev pub decreases-scan : goal.decreases-scan
decreases-scan l = length l.text.now - l.at
