use Rattle.std.proofs.Common.{◌≡◌, ◌∷◌, Err, subst, arith}
use Rattle.std.proofs.lemmas.Grind.{common_steps}
use Rattle.fitch.specs.Checks.{Accepted, Refused}
use Rattle.fitch.specs.History.{step}
use Rattle.derivations.specs.Derived.{sheet_in, Derived, checks_of_step}
use Rattle.derivations.specs.Sheets.{formula_of}
use Rattle.scripts.proofs.run.acts.step.Goals as goal

pub returns-in_err-step-clause-ran : goal.returns-in_err-step-clause-ran
returns-in_err-step-clause-ran c h g =
    let refused : c.from_residual.result ≡ Err c.in_err-step.field-0.0 = grind (arith, common_steps) in
    rw refused (subst (λ cs. Refused (checks_of_step c.args.derivation.now h c.args.place c.args.rule cs) c.in_err-step.field-0.0) c.as_slice.ensures (c.in_err-step.ensures.exact h g))

pub returns-clause-ran : goal.returns-clause-ran
returns-clause-ran c h g =
    let taken = c.in_ok-step.ensures.exact h g in
    subst
    (λ cs. Accepted (checks_of_step c.args.derivation.now h c.args.place c.args.rule cs) × Derived c.step.new.self (step (formula_of (sheet_in c.args.derivation.now) c.args.place) c.args.rule cs ∷ h))
    c.as_slice.ensures
    (taken.0, taken.2)
