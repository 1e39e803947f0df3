-- An example of each rule, for any formulas p, q and r.
use Rattle.std.specs.Prelude.{◌≢◌, [], ◌∷◌}
use Rattle.grammar.specs.Formula.{Formula, conjunction, disjunction, implication, negation}
use Rattle.grammar.specs.Formula.Formula.{falsum}
use Rattle.fitch.specs.Rules.{line, box, Fits, Serves}
use Rattle.fitch.specs.declared.mode.Mode.TheVariants.{Constructive, Classical}
use Rattle.fitch.specs.declared.rule.Rule.{Rule}
use Rattle.fitch.specs.declared.rule.Rule.TheVariants.{Reiterate, AndIntro, AndLeft, AndRight, OrLeft, OrRight, OrElim, ImpIntro, ImpElim, ExFalso, Reductio}

pub record RuleExamples : Type 0 where
  pub reiterate : (p : Formula) → Fits Reiterate p (line p ∷ [])
  pub and_intro : (p q : Formula) → Fits AndIntro (conjunction p q) (line p ∷ line q ∷ [])
  pub and_left : (p q : Formula) → Fits AndLeft p (line (conjunction p q) ∷ [])
  pub and_right : (p q : Formula) → Fits AndRight q (line (conjunction p q) ∷ [])
  pub or_left : (p q : Formula) → Fits OrLeft (disjunction p q) (line p ∷ [])
  pub or_right : (p q : Formula) → Fits OrRight (disjunction p q) (line q ∷ [])
  pub or_elim : (p q r : Formula) → Fits OrElim r (line (disjunction p q) ∷ box p r ∷ box q r ∷ [])
  pub imp_intro : (p q : Formula) → Fits ImpIntro (implication p q) (box p q ∷ [])
  pub imp_elim : (p q : Formula) → Fits ImpElim q (line (implication p q) ∷ line p ∷ [])
  pub ex_falso : (q : Formula) → Fits ExFalso q (line falsum ∷ [])
  pub reductio : (p : Formula) → Fits Reductio p (box (negation p) falsum ∷ [])
  pub constructive : (rule : Rule) → (rule ≢ Reductio) → Serves Constructive rule
  pub not_reductio : Serves Constructive Reductio → ⊥
  pub classical : (rule : Rule) → Serves Classical rule
