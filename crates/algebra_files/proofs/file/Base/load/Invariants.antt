use Rattle.std.proofs.Common.{map}
use Rattle.entries.specs.Entries.{stored}
use Rattle.frames.proofs.Relating.{HalfLoaded}
use Rattle.algebra_files.specs.Reading.{pairs_in}
use Rattle.algebra_files.proofs.file.Base.load.Given as goal

abbrev pub invariant-loop-i : goal.invariant-loop-i
invariant-loop-i l = HalfLoaded l.self.worlds (pairs_in (map stored l.self.pairs.now)) l.i l.frame
