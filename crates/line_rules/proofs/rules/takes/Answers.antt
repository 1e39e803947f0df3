use Rattle.std.proofs.Common.{rules, ◌≡◌, eqb}
use Rattle.formulas.specs.Stores.{contents}
use Rattle.shapes.specs.Sides.{part_on}
use Rattle.shapes.proofs.Fitting.{found, gives_taking, none_taking}
use Rattle.line_rules.proofs.rules.takes.Goals as goal

pub returns : goal.returns
returns c =
    let s = c.args.store.now in
    rw c.in-Line.is (found c.parts.result c.parts.ensures c.is_some_and.ensures (none_taking (contents s) s.once c.args.side c.args.formula c.in-Line.line)
    (λ p j q. let e : c.is_some_and.result ≡ eqb (part_on c.args.side p) c.args.formula = search rules in rw e (gives_taking (contents s) s.once c.args.side c.args.formula c.in-Line.line p j)))
