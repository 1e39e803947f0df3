use Rattle.std.proofs.Common.{◌≡◌, Ok, Err, ap, arith}
use Rattle.std.proofs.lemmas.Grind.{common_steps}
use Rattle.formulas.specs.Stores.{contents}
use Rattle.judgements.specs.declared.refusal.Unjudged.TheVariants.{NotWeighed}
use Rattle.judgements.proofs.Weighed.{weighed, confirmed}
use Rattle.judgements.proofs.judge.judge.Goals as goal

pub returns-in_err-weigh-clause-exact : goal.returns-in_err-weigh-clause-exact
returns-in_err-weigh-clause-exact g c h f =
    let refused : c.from_residual-in_err-weigh.result ≡ Err (NotWeighed c.in_err-weigh.field-0.0) = grind (arith, common_steps) in
    rw refused (weighed (g.A.Algebra.means c.args.algebra.now) c.in_ok-sequent.sequent (ap contents c.store.ensures) _ _ _ (Err c.in_err-weigh.field-0.0) (c.in_ok-sequent.ensures.exact h f) c.in_err-weigh.ensures.exact)

pub returns-clause-exact : goal.returns-clause-exact
returns-clause-exact g c h f =
    weighed (g.A.Algebra.means c.args.algebra.now) c.in_ok-sequent.sequent (ap contents c.store.ensures) _ _ _ (Ok c.in_ok-weigh.field-0) (c.in_ok-sequent.ensures.exact h f) c.in_ok-weigh.ensures.exact

pub returns-clause-confirmed : goal.returns-clause-confirmed
returns-clause-confirmed g c =
    confirmed (g.A.Algebra.means c.args.algebra.now) c.in_ok-sequent.sequent (ap contents c.store.ensures) c.in_ok-weigh.field-0 c.in_ok-sequent.ensures.mode c.in_ok-sequent.ensures.entails c.in_ok-weigh.ensures.follows
