use Rattle.std.proofs.Common.{rules, refl, arith}
use mathlib.Core.Logic.{∥∥₁_map}
use Rattle.std.proofs.lemmas.Grind.{common_steps}
use Rattle.ledger.proofs.Calling.{begun}
use Rattle.derivations.specs.Whole as whole
use Rattle.derivations.proofs.whole.derive_by.Goals as goal

pub returns-in_err-gather : goal.returns-in_err-gather
returns-in_err-gather g c = record {
  made = c.new-gathering.result;
  makes = record { history = c.new-gathering.ensures.history; store = search rules; lines = search rules; count = search rules; mode = search rules };
  runs = whole.FromGathering.stopped c.gather.new.gathering c.in_err-gather.ensures.gathers c.gather.ensures.leaves (grind (arith, common_steps)) (search rules);
}

pub invariant_of-derivation : goal.invariant_of-derivation
invariant_of-derivation g c =
    let after = c.gather.new.gathering in
    record {
      small = after.small;
      fits = after.fits;
      few = after.few;
      recorded = ∥∥₁_map after.recorded (λ r. (_, begun r.1 c.new.ensures));
    }

pub returns-in_err-write : goal.returns-in_err-write
returns-in_err-write g c = record {
  made = c.new-gathering.result;
  makes = record { history = c.new-gathering.ensures.history; store = search rules; lines = search rules; count = search rules; mode = search rules };
  runs =
      whole.FromGathering.opened c.gather.new.gathering c.in_ok-gather.ensures.gathers c.gather.ensures.leaves
      (record { history = λ h x. begun x c.new.ensures; sheet = record { store = refl; lines = refl; count = refl; mode = refl }; premises = refl })
      (whole.FromOpen.stopped c.write.new.derivation c.in_err-write.ensures.writes c.write.ensures.leaves (grind (arith, common_steps)) (search rules));
}

pub returns : goal.returns
returns g c = record {
  made = c.new-gathering.result;
  makes = record { history = c.new-gathering.ensures.history; store = search rules; lines = search rules; count = search rules; mode = search rules };
  runs =
      whole.FromGathering.opened c.gather.new.gathering c.in_ok-gather.ensures.gathers c.gather.ensures.leaves
      (record { history = λ h x. begun x c.new.ensures; sheet = record { store = refl; lines = refl; count = refl; mode = refl }; premises = refl })
      (whole.FromOpen.told c.write.new.derivation c.in_ok-write.ensures.writes c.write.ensures.leaves
      (record { history = λ h x. x; sheet = record { store = refl; lines = refl; count = refl; mode = refl }; premises = refl; boxes = refl })
      c.tell.ensures (search rules));
}
