use Rattle.std.proofs.Common.{subst}
use Rattle.formulas.specs.Stores.{contents}
use Rattle.algebra_files.specs.Cutting.{values_of}
use Rattle.algebra_files.specs.Meant.{Elements}
use Rattle.algebra_files.proofs.Blaming.{stopped}
use Rattle.algebra_files.proofs.weigh_in.weigh_in.Goals as goal

pub returns-in-Err : goal.returns-in-Err
returns-in-Err g c =
    let m = g.A.Algebra.means c.args.algebra.now in
    let elements : Elements m.bottom (values_of c.args.values.now) c.elements.result = subst (λ b. Elements b (values_of c.args.values.now) c.elements.result) c.bottom.ensures c.elements.ensures in (
      stopped m (g.A.Algebra.lawful c.args.algebra.now) (contents c.args.store.now) (values_of c.args.values.now) c.elements.result c.args.sequent.now c.args.buffer.now c.args.number elements c.in-Err.why c.unweighed.result
          c.in-Err.ensures.exact.0 c.unweighed.ensures,
      c.in-Err.ensures.exact.1,
    )
