use Rattle.std.proofs.Common.{◌≡◌, ◌-◌, length, Err, refl, ap, inl, arith}
use mathlib.Core.Logic.{∥∥₁_map}
use Rattle.std.proofs.lemmas.Grind.{common_steps}
use Rattle.fitch.specs.declared.refusal.Refusal.TheVariants.{NoOpenBox}
use Rattle.ledger.proofs.Calling.{depth_is}
use Rattle.derivations.specs.Derived.{sheet_in}
use Rattle.derivations.proofs.Sounding.{derives_sound}
use Rattle.derivations.proofs.Writing.{closed, still_fits, end_leaves, first_some, first_within}
use Rattle.derivations.proofs.open.Open.close.Goals as goal

pub returns-in_err-top-clause-exact : goal.returns-in_err-top-clause-exact
returns-in_err-top-clause-exact c h g =
    let refused : c.from_residual.result ≡ Err NoOpenBox = grind (arith, common_steps) in
    let none = rw c.in_err-top.ensures.ok_part at c.top.ensures in
    rw refused (inl (refl, λ some. omega (arith, depth_is g, ap length none)))

pub invariant_of-self : goal.invariant_of-self
invariant_of-self c =
    let o = c.args.self.now in
    let top = rw c.in_ok-top.ensures.ok_part at c.top.ensures in
    record {
      small = o.small;
      fits = still_fits o.count (c.in_ok-top.top.first - 1) o.lines.now _ o.fits;
      few = o.few;
      recorded = ∥∥₁_map o.recorded (λ r. (_, closed o c.in_ok-top.top r.0 r.1 top c.close.ensures));
    }

pub returns-clause-exact : goal.returns-clause-exact
returns-clause-exact c h g =
    let top = rw c.in_ok-top.ensures.ok_part at c.top.ensures in
    ((omega (arith, depth_is g, ap length top), tt), closed c.args.self.now c.in_ok-top.top h g top c.close.ensures)

pub returns-clause-sound : goal.returns-clause-sound
returns-clause-sound c h x = derives_sound x

pub returns-clause-leaves : goal.returns-clause-leaves
returns-clause-leaves c =
    let o = c.args.self.now in
    let t = c.in_ok-top.top in
    let top = rw c.in_ok-top.ensures.ok_part at c.top.ensures in
    record { premises = refl; sheet = end_leaves (sheet_in o) _ t.first _ (first_some o t top) (first_within o t top) (record { store = refl; mode = refl; slice = refl; count = refl; lines = refl }) }
