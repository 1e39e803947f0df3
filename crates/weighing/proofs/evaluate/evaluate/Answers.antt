use Rattle.std.proofs.Common.{◌≤◌, length, arith}
use Rattle.heyting.proofs.Evaluating.{ready_in, fills}
use Rattle.formulas.specs.Stores.{contents}
use Rattle.formulas.specs.declared.store.Store.{Store}
use Rattle.weighing.proofs.evaluate.evaluate.Goals as goal

pub worth_of-requires : goal.worth_of-requires
worth_of-requires g c =
    let s : Store = c.args.store.now in
    let room : length (contents s) ≤ length c.args.values.now = omega (arith, c.count-count.ensures) in
    ready_in _ _ _ _ room _ (g.A.Algebra.lawful c.args.algebra.now) c.in_ok-check_letters.ensures s.fitting _ c.loop-place.invariant _ (rw c.unwrap-node.ensures at c.node.ensures)

pub loop-place-preserved : goal.loop-place-preserved
loop-place-preserved g c =
    let s : Store = c.args.store.now in
    let room : length (contents s) ≤ length c.args.values.now = omega (arith, c.count-count.ensures) in
    fills (g.A.Algebra.means c.args.algebra.now) _ _ _ room _ _ c.loop-place.invariant _ (rw c.unwrap-node.ensures at c.node.ensures) _ c.worth_of.ensures
