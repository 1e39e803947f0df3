use Rattle.std.proofs.Common.{◌≡◌}
use Rattle.heyting.proofs.Evaluating.{filled}
use Rattle.formulas.specs.Stores.{contents}
use Rattle.weighing.proofs.evaluate.evaluate.Given as goal

abbrev pub invariant-loop-place : goal.invariant-loop-place
invariant-loop-place g l = l.values ≡ filled (g.A.Algebra.means l.algebra) l.valuation.letters (contents l.store) l.initial.values l.place
