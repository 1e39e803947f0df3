use Rattle.std.proofs.Common.{◌+◌, ◌≡◌, Err, refl, inl, inr, arith}
use mathlib.Core.Logic.{∥∥₁_map}
use Rattle.std.proofs.lemmas.Grind.{common_steps}
use Rattle.fitch.specs.declared.refusal.Refusal.TheVariants.{NoRecord}
use Rattle.ledger.proofs.Calling.{premises_are}
use Rattle.derivations.specs.Gathered.{sheet_of}
use Rattle.derivations.proofs.Writing.{write_leaves, still_fits, room_left, room_told, premised}
use Rattle.derivations.proofs.gathering.Gathering.premise.Goals as goal

pub returns-then-self-ge-MOST_PREMISES-clause-exact : goal.returns-then-self-ge-MOST_PREMISES-clause-exact
returns-then-self-ge-MOST_PREMISES-clause-exact c h g = inr (c.in_ok-check_stored.ensures, inl (refl, λ lt. omega (arith, premises_are g)))

pub returns-in_err-check_room-clause-exact : goal.returns-in_err-check_room-clause-exact
returns-in_err-check_room-clause-exact c h g =
    let refused : c.from_residual-in_err-check_room.result ≡ Err NoRecord = grind (arith, common_steps) in
    rw refused (inr (c.in_ok-check_stored.ensures, inr (omega (arith, premises_are g), inl (refl, λ r. c.in_err-check_room.ensures.1 (room_left g.recorded r)))))

pub invariant_of-self : goal.invariant_of-self
invariant_of-self c =
    let g = c.args.self.now in
    record {
      small = omega (arith, c.in_ok-check_room.ensures.0);
      fits = still_fits (g.count + 1) g.count g.lines.now _ (omega (arith, c.in_ok-check_room.ensures.1));
      few = omega arith;
      recorded = ∥∥₁_map g.recorded (λ r. (_, premised g c.args.formula r.0 r.1 c.in_ok-check_stored.ensures (omega arith) c.in_ok-check_room.ensures));
    }

pub returns-clause-exact : goal.returns-clause-exact
returns-clause-exact c h g = (
  (c.in_ok-check_stored.ensures, (omega (arith, premises_are g), (room_told g.recorded c.in_ok-check_room.ensures, tt))),
  omega (arith, g.recorded.counted),
  premised c.args.self.now c.args.formula h g c.in_ok-check_stored.ensures (omega arith) c.in_ok-check_room.ensures,
)

pub returns-clause-leaves : goal.returns-clause-leaves
returns-clause-leaves c = write_leaves (sheet_of c.args.self.now) _ _ (record { store = refl; mode = refl; slice = refl; count = refl; lines = refl })
