use Rattle.std.proofs.Common.{◌≡◌, ◌+◌, ◌<◌, length, get_or, Err, refl, ◌∙◌, add-one, arith}
use Rattle.std.proofs.lemmas.Grind.{common_steps}
use Rattle.std.proofs.lemmas.List.{length-set}
use Rattle.fitch.specs.Exact.{Reached}
use Rattle.fitch.specs.declared.refusal.Refusal.TheVariants.{NotReachable}
use Rattle.fitch.proofs.Resolving.{kinds_few}
use Rattle.shapes.specs.Giving.{meaning, Placed}
use Rattle.shapes.specs.declared.cited.Cited.TheVariants.{Line}
use Rattle.ledger.proofs.Recording.{set_more}
use Rattle.pages.specs.Pages.{formulas_on}
use Rattle.pages.proofs.page.Page.resolve.Goals as goal

pub returns-in_err-cited-clause-resolves : goal.returns-in_err-cited-clause-resolves
returns-in_err-cited-clause-resolves c h g =
    let fs = formulas_on c.args.self.now in
    let k = c.loop-place.place in
    let none = c.in_err-cited.ensures.ok_part in
    let refused : c.from_residual.result ≡ Err (NotReachable (k + 1)) = grind (arith, common_steps) in
    rw refused (
      k + 1,
      refl,
      (
        k,
        add-one k,
        c.loop-place-test.true,
        (λ x q. (rw none at (c.stands_for.ensures.resolves h g)) x (rw (← c.kinds-kinds.ensures) at q)),
        (λ j lt. (meaning fs (get_or c.loop-place.cited j (Line 0)), c.loop-place.invariant.reached h g j lt)),
      ),
    )

pub loop-place-preserved : goal.loop-place-preserved
loop-place-preserved c =
    let fs = formulas_on c.args.self.now in
    let k = c.loop-place.place in
    let x = c.in_ok-cited.field-0 in
    let room : k < length c.loop-place.cited = omega (arith, kinds_few c.args.rule) in
    record {
      long = length-set c.loop-place.cited k x ∙ c.loop-place.invariant.long;
      placed = set_more (λ j y. Placed fs y) c.loop-place.cited k x (Line 0) room c.loop-place.invariant.placed (rw c.in_ok-cited.ensures.ok_part at c.stands_for.ensures.placed);
      reached = λ h g. set_more (λ j y. Reached h c.args.rule c.args.citations.now j (meaning fs y)) c.loop-place.cited k x (Line 0) room (c.loop-place.invariant.reached h g)
          (rw (c.in_ok-cited.ensures.ok_part, c.kinds-kinds.ensures) at (c.stands_for.ensures.resolves h g));
    }

pub returns-clause-resolves : goal.returns-clause-resolves
returns-clause-resolves c h g j lt = c.loop-place.invariant.reached h g j (omega arith)
