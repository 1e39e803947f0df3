use Rattle.std.proofs.Common.{◌≡◌, take}
use Rattle.heyting.specs.Meaning.{Member}
use Rattle.verdicts.specs.Weighing.{meet_at}
use Rattle.verdicts.proofs.weigh.meet_of_places.Given as goal

abbrev pub invariant-loop-place : goal.invariant-loop-place
invariant-loop-place g l =
    (l.meet ≡ meet_at (g.A.Algebra.means l.algebra) l.values (take l.place-index l.places))
    × Member (g.A.Algebra.means l.algebra) l.meet
