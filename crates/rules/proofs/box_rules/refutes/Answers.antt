use Rattle.std.proofs.Common.{eqb-true}
use Rattle.formulas.specs.Stores.{contents}
use Rattle.shapes.proofs.Fitting.{gives_reductio, ends_with_falsum}
use Rattle.rules.proofs.box_rules.refutes.Goals as goal

pub returns-then-end-eq-FALSUM : goal.returns-then-end-eq-FALSUM
returns-then-end-eq-FALSUM c =
    let s = c.args.store.now in
    simp c.in-Box.is (gives_reductio (contents s) s.once s.base c.args.formula c.in-Box.first c.in-Box.end c.if-end-eq-FALSUM.true c.is_joined.ensures)

pub returns-else-end-eq-FALSUM : goal.returns-else-end-eq-FALSUM
returns-else-end-eq-FALSUM c =
    let s = c.args.store.now in
    simp c.in-Box.is (
      (λ t. absurd (c.if-end-eq-FALSUM.false (eqb-true c.in-Box.end 0 t))),
      (λ g. absurd (c.if-end-eq-FALSUM.false (ends_with_falsum (contents s) s.once s.base c.args.formula c.in-Box.first c.in-Box.end g))),
    )
