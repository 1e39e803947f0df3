use Rattle.std.proofs.Common.{arith}
use Rattle.formulas.specs.Stores.{contents}
use Rattle.shapes.proofs.Fitting.{gives_reiterate}
use Rattle.line_rules.proofs.rules.reiterates.Goals as goal

pub returns-then-formula-count : goal.returns-then-formula-count
returns-then-formula-count c =
    let s = c.args.store.now in
    simp c.in-Line.is (gives_reiterate (contents s) s.once c.args.formula c.in-Line.line (omega (arith, c.count.ensures)))
