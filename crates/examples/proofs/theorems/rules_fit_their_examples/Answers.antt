use Rattle.std.proofs.Common.{◌≢◌, refl}
use Rattle.fitch.specs.Rules.{Serves}
use Rattle.fitch.specs.declared.mode.Mode.TheVariants.{Constructive}
use Rattle.fitch.specs.declared.rule.Rule.{Rule}
use Rattle.fitch.specs.declared.rule.Rule.TheVariants.{Reiterate, AndIntro, AndLeft, AndRight, OrLeft, OrRight, OrElim, ImpIntro, ImpElim, ExFalso, Reductio}
use Rattle.examples.proofs.theorems.rules_fit_their_examples.Goals as goal

constructive : (rule : Rule) → (rule ≢ Reductio) → Serves Constructive rule
constructive Reiterate other = tt
constructive AndIntro other = tt
constructive AndLeft other = tt
constructive AndRight other = tt
constructive OrLeft other = tt
constructive OrRight other = tt
constructive OrElim other = tt
constructive ImpIntro other = tt
constructive ImpElim other = tt
constructive ExFalso other = tt
constructive Reductio other = absurd (other refl)

pub returns : goal.returns
returns c = record {
  reiterate = λ p. refl;
  and_intro = λ p q. (p, q, refl, refl);
  and_left = λ p q. (q, refl);
  and_right = λ p q. (p, refl);
  or_left = λ p q. (p, q, refl, refl);
  or_right = λ p q. (p, q, refl, refl);
  or_elim = λ p q r. (p, q, refl);
  imp_intro = λ p q. (p, q, refl, refl);
  imp_elim = λ p q. (p, refl);
  ex_falso = λ q. refl;
  reductio = λ p. refl;
  constructive = constructive;
  not_reductio = λ s. s;
  classical = λ rule. tt;
}
