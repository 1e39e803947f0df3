use mathlib.Core.Logic.{∥∥₁_map}
use Rattle.ledger.proofs.Calling.{begun}
use Rattle.derivations.proofs.Sounding.{derives_sound}
use Rattle.derivations.proofs.gathering.Gathering.open.Goals as goal

pub invariant_of-result : goal.invariant_of-result
invariant_of-result c =
    let g = c.args.self in
    record {
      small = g.small;
      fits = g.fits;
      few = g.few;
      recorded = ∥∥₁_map g.recorded (λ r. (_, begun r.1 c.new.ensures));
    }

pub returns-clause-sound : goal.returns-clause-sound
returns-clause-sound c h x = derives_sound x
