use Rattle.std.proofs.Common.{◌≡◌, ◌^◌, ◌<◌, Err, refl, arith}
use Rattle.formulas.specs.Stores.{contents}
use Rattle.answers.specs.declared.unanswered.Unanswered.TheVariants.{Faulty}
use Rattle.heyting.specs.Layers.{nucleus}
use Rattle.algebra_files.specs.Cutting.{values_of}
use Rattle.algebra_files.proofs.Widening.{no_layer, one_layer, no_member}
use Rattle.algebra_files.proofs.weigh_in.weigh_over.Goals as goal

pub returns-in_default : goal.returns-in_default
returns-in_default g c =
    let fits : c.args.number < 2 ^ 64 = omega arith in
    no_layer (g.A.Algebra.means c.args.below.now) (contents c.args.store.now) (values_of c.args.values.now) c.args.sequent.now c.args.number c.args.buffer.now c.weigh_in.new.buffer c.weigh_in.result c.args.layer
    c.in_default.is fits c.weigh_in.ensures

pub returns-in-Ok : goal.returns-in-Ok
returns-in-Ok g c =
    let m = g.A.Algebra.means c.args.below.now in
    let made = c.in-Ok.ensures in
    let same : nucleus (g.A.Algebra.means c.in-Ok.nucleus.below.now) c.in-Ok.nucleus.element ≡ nucleus m c.in-Some.element = cc (made.0, made.1) in
    one_layer m (contents c.args.store.now) (values_of c.args.values.now) c.args.sequent.now c.args.number c.args.buffer.now c.weigh_in-in-Ok.new.buffer c.weigh_in-in-Ok.result c.args.layer c.in-Some.element
    (nucleus (g.A.Algebra.means c.in-Ok.nucleus.below.now) c.in-Ok.nucleus.element) c.saturating_add.result c.in-Some.is made.2 same c.saturating_add.ensures c.weigh_in-in-Ok.ensures

pub returns-in-Err : goal.returns-in-Err
returns-in-Err g c =
    let not_made = c.in-Err.ensures in (
      no_member (g.A.Algebra.means c.args.below.now) (contents c.args.store.now) (values_of c.args.values.now) c.args.sequent.now c.args.number c.args.buffer.now c.args.buffer.now (Err (Faulty c.at.result)) c.args.layer
          c.in-Some.element c.at.result c.in-Some.is not_made.2 c.at.ensures,
      refl,
    )
