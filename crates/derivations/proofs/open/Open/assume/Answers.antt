use Rattle.std.proofs.Common.{◌+◌, ◌≡◌, Err, refl, inl, inr, arith}
use mathlib.Core.Logic.{∥∥₁_map}
use Rattle.std.proofs.lemmas.Grind.{common_steps}
use Rattle.fitch.specs.declared.refusal.Refusal.TheVariants.{NoRecord}
use Rattle.ledger.proofs.Calling.{depth_is}
use Rattle.derivations.specs.Derived.{sheet_in}
use Rattle.derivations.proofs.Sounding.{derives_sound}
use Rattle.derivations.proofs.Writing.{write_leaves, still_fits, room_left, room_told, assumed}
use Rattle.derivations.proofs.open.Open.assume.Goals as goal

pub returns-then-not-has_room-clause-exact : goal.returns-then-not-has_room-clause-exact
returns-then-not-has_room-clause-exact c h g = inr (c.in_ok-check_stored.ensures, inl (refl, λ few. (let is = c.has_room.ensures.1 (omega (arith, depth_is g)) in cc)))

pub returns-in_err-check_room-clause-exact : goal.returns-in_err-check_room-clause-exact
returns-in_err-check_room-clause-exact c h g =
    let few = c.has_room.ensures.0 c.if-not-has_room.false in
    let refused : c.from_residual-in_err-check_room.result ≡ Err NoRecord = grind (arith, common_steps) in
    rw refused (inr (c.in_ok-check_stored.ensures, inr (omega (arith, few, depth_is g), inl (refl, λ r. c.in_err-check_room.ensures.1 (room_left g.recorded r)))))

pub invariant_of-self : goal.invariant_of-self
invariant_of-self c =
    let o = c.args.self.now in
    let few = c.has_room.ensures.0 c.if-not-has_room.false in
    record {
      small = omega (arith, c.in_ok-check_room.ensures.0);
      fits = still_fits (o.count + 1) o.count o.lines.now _ (omega (arith, c.in_ok-check_room.ensures.1));
      few = o.few;
      recorded = ∥∥₁_map o.recorded (λ r. (_, assumed o c.args.formula _ r.0 r.1 c.in_ok-check_stored.ensures few c.in_ok-check_room.ensures c.innermost-around.ensures (c.open.ensures.opened few).1));
    }

pub returns-clause-exact : goal.returns-clause-exact
returns-clause-exact c h g =
    let few = c.has_room.ensures.0 c.if-not-has_room.false in (
      (c.in_ok-check_stored.ensures, (omega (arith, few, depth_is g), (room_told g.recorded c.in_ok-check_room.ensures, tt))),
      omega (arith, g.recorded.counted),
      assumed c.args.self.now c.args.formula _ h g c.in_ok-check_stored.ensures few c.in_ok-check_room.ensures c.innermost-around.ensures (c.open.ensures.opened few).1,
    )

pub returns-clause-sound : goal.returns-clause-sound
returns-clause-sound c h x = derives_sound x

pub returns-clause-leaves : goal.returns-clause-leaves
returns-clause-leaves c = record { premises = refl; sheet = write_leaves (sheet_in c.args.self.now) _ _ (record { store = refl; mode = refl; slice = refl; count = refl; lines = refl }) }
