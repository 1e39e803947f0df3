-- The values of formulas are members.
use Rattle.std.proofs.Common.{ℕ, ◌-◌, List, length, get_or, sym, subst, ⊎_elim}
use Rattle.std.proofs.lemmas.List.{get_or_past}
use Rattle.std.proofs.lemmas.Bool.{cases_lt}
use Rattle.grammar.specs.Formula.{Formula}
use Rattle.grammar.specs.Formula.Formula.{falsum, letter, joined}
use Rattle.grammar.specs.declared.connective.Connective.{Connective}
use Rattle.grammar.specs.declared.connective.Connective.TheVariants.{And, Or, Implies}
use Rattle.heyting.specs.Meaning.{Meaning, Member, Lawful}
use Rattle.heyting.specs.Values.{operation, value, ByMembers}

module _ (m : Meaning) (l : Lawful m) where
  pub operation_in : (k : Connective) (a b : ℕ) → Member m a → Member m b → Member m (operation m k a b)
  operation_in And a b = l.meet_in a b
  operation_in Or a b = l.join_in a b
  operation_in Implies a b = l.arrow_in a b

  -- past its end a valuation gives the bottom
  pub element_in : (v : List ℕ) → ByMembers m v → (i : ℕ) → Member m (get_or v i m.bottom)
  element_in v members i =
      ⊎_elim (members i) (λ h. subst (Member m) (sym (get_or_past v i m.bottom h)) l.bottom_in) (cases_lt i (length v))

  pub value_in : (v : List ℕ) → ByMembers m v → (f : Formula) → Member m (value m v f)
  value_in v members falsum = l.bottom_in
  value_in v members (letter c) = element_in v members (c - 97)
  value_in v members (joined k f g) = operation_in k _ _ (value_in v members f) (value_in v members g)
