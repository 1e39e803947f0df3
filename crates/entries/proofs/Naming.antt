-- A name finds the thing that bears it.
use Rattle.std.proofs.Common.{◌≡◌, ◌≢◌, ℕ, Bool, true, false, cond, List, [], ◌∷◌, Some, None, Option, MatchOption, refl, sym, ap, ◌∙◌}
use Rattle.std.specs.Str.{bytes_eq}
use Rattle.std.proofs.lemmas.Slice.Eq.{bytes_eq-Decides}
use Rattle.fitch.specs.Names.{name_of}
use Rattle.fitch.specs.declared.rule.Rule.{Rule}
use Rattle.fitch.specs.declared.rule.Rule.TheVariants.{Reiterate, AndIntro, AndLeft, AndRight, OrLeft, OrRight, OrElim, ImpIntro, ImpElim, ExFalso, Reductio}
use Rattle.entries.specs.Kinds.{found, all_rules, rule_named}

module _ {A : Type 0} (test : A → Bool) where
  none_found : (xs : List A) → ((x : A) → test x ≡ true → ⊥) → found test xs ≡ None
  none_found [] fails = refl
  none_found (x ∷ xs) fails = at (test x) refl (none_found xs fails)
    where
      at : (b : Bool) → test x ≡ b → found test xs ≡ None → cond b (Some x) (found test xs) ≡ None
      at true e none = absurd (fails x e)
      at false e none = none

pub own_name : (r : Rule) → rule_named (name_of r) ≡ Some r
own_name Reiterate = refl
own_name AndIntro = refl
own_name AndLeft = refl
own_name AndRight = refl
own_name OrLeft = refl
own_name OrRight = refl
own_name OrElim = refl
own_name ImpIntro = refl
own_name ImpElim = refl
own_name ExFalso = refl
own_name Reductio = refl

pub rule_found : (s : List ℕ) (o : Option Rule) → MatchOption o ((r : Rule) → s ≢ name_of r) (λ r. s ≡ name_of r) → o ≡ rule_named s
rule_found s (Some r) e = sym (own_name r) ∙ ap rule_named (sym e)
rule_found s None none = sym (none_found (λ r. bytes_eq (name_of r) s) all_rules (λ r same. none r (sym ((bytes_eq-Decides (name_of r) s).0 same))))
