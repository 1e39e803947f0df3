use Rattle.entries.proofs.Places.{Reached}
use Rattle.entries.proofs.order.first_out_of_turn.Given as goal

abbrev pub invariant-loop-place : goal.invariant-loop-place
invariant-loop-place l = Reached l.format l.fn.turn l.reached l.entries l.place
