use Rattle.formulas.specs.Stores.{contents}
use Rattle.shapes.proofs.Fitting.{found_decide}
use Rattle.shapes.proofs.parts.is_joined.Goals as goal

pub returns : goal.returns
returns c = let s = c.args.store.now in rw c.eq.ensures (found_decide (contents s) s.once _ _ _ _ _ c.parts.ensures)
