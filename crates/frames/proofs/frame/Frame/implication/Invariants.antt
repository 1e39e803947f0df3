use Rattle.std.proofs.Common.{◌≡◌}
use Rattle.heyting.specs.Tables.{collect, implied_at, table}
use Rattle.frames.proofs.frame.Frame.implication.Given as goal

abbrev pub invariant-loop-u : goal.invariant-loop-u
invariant-loop-u l = l.worlds ≡ collect (implied_at l.self.worlds (table l.self.up) l.a l.b) l.u
