use Rattle.std.proofs.Common.{sym, subst}
use Rattle.heyting.specs.Layers.{nucleus}
use Rattle.heyting.specs.Meaning.{Boolean}
use Rattle.heyting.specs.Theorems.{DoubleNegations}
use Rattle.heyting.proofs.Layer.{double_negations, regular_boolean}
use Rattle.nuclei.proofs.nucleus.Nucleus.double_negation.Goals as goal

pub returns-clause-values : goal.returns-clause-values
returns-clause-values g c =
    let m = g.A.Algebra.means c.args.below in
    subst (λ e. DoubleNegations m (nucleus m e)) (sym c.bottom-element.ensures) (double_negations m (g.A.Algebra.lawful c.args.below))

pub returns-clause-boolean : goal.returns-clause-boolean
returns-clause-boolean g c =
    let m = g.A.Algebra.means c.args.below in
    subst (λ e. Boolean (nucleus m e)) (sym c.bottom-element.ensures) (regular_boolean m (g.A.Algebra.lawful c.args.below))
