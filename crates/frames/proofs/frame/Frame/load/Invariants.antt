use Rattle.frames.proofs.Relating.{HalfLoaded}
use Rattle.frames.proofs.frame.Frame.load.Given as goal

abbrev pub invariant-loop-i : goal.invariant-loop-i
invariant-loop-i l = HalfLoaded l.worlds l.pairs l.i l.frame
