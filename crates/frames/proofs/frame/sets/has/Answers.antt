use Rattle.std.proofs.Common.{◌/◌, ◌^◌, eqb, ap}
use lib.Bits.{and_mask}
use Rattle.heyting.specs.Worlds.{holds}
use Rattle.frames.proofs.frame.sets.has.Goals as goal

pub returns : goal.returns
unfolding holds
returns c = ap (λ x. eqb x 1) (and_mask (c.args.set / 2 ^ c.args.world) 1)
