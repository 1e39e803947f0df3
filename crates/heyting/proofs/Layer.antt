-- The double-negation layer: what formulas are worth there, and that there a double negation lies below what it negates.
use Rattle.std.proofs.Common.{◌≡◌, ℕ, ◌-◌, cond, eqb, List, map, get_or, sym, refl, ap, ◌∙◌, subst, ap₂, eqb-true}
use lib.ListN.{get_or-map}
use Rattle.std.proofs.lemmas.Bool.{and_parts}
use Rattle.grammar.specs.Formula.{Formula}
use Rattle.grammar.specs.Formula.Formula.{falsum, letter, joined}
use Rattle.grammar.specs.declared.connective.Connective.TheVariants.{And, Or, Implies}
use Rattle.heyting.specs.Layers.{closure, fixed, regular, single}
use Rattle.heyting.specs.Meaning.{Meaning, Member, Lawful, Boolean, negation}
use Rattle.heyting.specs.Theorems.{LayerValuesAreDoubleNegations}
use Rattle.heyting.specs.Values.{value, ByMembers}
use Rattle.heyting.proofs.Doubles.{twice, twice_meet, twice_join, twice_arrow}
use Rattle.heyting.proofs.Lattice.{Elem, bottom, meet, join, arrow, below_refl, antisym, meet_right, bottom_least, curry, apply, below_same}
use Rattle.heyting.proofs.Meets.{worth}
use Rattle.heyting.proofs.Nuclei.{close, close_closed, in_fixed, fixed_lawful}
use Rattle.heyting.proofs.Values.{element_in}

abbrev pub doubled : Meaning → ℕ → ℕ
doubled m a = negation m (negation m a)

-- the members that are their own double negations
abbrev pub layer : Meaning → Meaning
layer m = fixed m m.bottom

module _ {m : Meaning} (l : Lawful m) where
  pub layer_lawful : Lawful (layer m)
  unfolding bottom
  layer_lawful = fixed_lawful l (bottom l)

  pub regular_is : layer m ≡ regular m
  regular_is = sym (ap (λ b. cond b (layer m) single) l.bottom_in)

  -- the double negation of an element is a member of the layer
  unfoldable pub raise : Elem m → Elem (layer m)
  unfolding bottom close arrow
  raise a = record { at = doubled m a.at; is = in_fixed l (bottom l) (close_closed l (bottom l) a) }

  bottom_doubled : doubled m m.bottom ≡ m.bottom
  unfolding close arrow bottom
  bottom_doubled =
      let o = bottom l in
      let n = close l o o in
      antisym l (apply l (below_refl l n) (curry l o (meet_right l n o))) (bottom_least l n)

  -- in the layer a double negation lies below what it negates
  pub layer_boolean : Boolean (layer m)
  unfolding twice close arrow bottom
  layer_boolean a is =
      let x : Elem (layer m) = record { at = a; is = is } in
      let own : doubled m a ≡ a = eqb-true _ _ (and_parts (m.member a) (eqb (doubled m a) a) is).1 in
      (below_same layer_lawful (twice layer_lawful x) x (ap (λ e. closure m e a) bottom_doubled ∙ own)).below

  module _ (v : List ℕ) (members : ByMembers m v) where
    pub doubled_members : ByMembers (layer m) (map (doubled m) v)
    unfolding raise
    doubled_members i h =
        subst (Member (layer m)) (sym (get_or-map (doubled m) v i m.bottom))
        (raise (record { at = get_or v i m.bottom; is = element_in m l v members i })).is

    pub layer_value : (A : Formula) → value (layer m) (map (doubled m) v) A ≡ doubled m (value m v A)
    unfolding twice close arrow meet join bottom
    layer_value falsum = refl
    layer_value (letter c) = get_or-map (doubled m) v (c - 97) m.bottom
    layer_value (joined And A B) = ap₂ m.meet (layer_value A) (layer_value B) ∙ twice_meet l (worth m l v members A) (worth m l v members B)
    layer_value (joined Or A B) =
        ap₂ (λ a b. doubled m (m.join a b)) (layer_value A) (layer_value B) ∙ twice_join l (worth m l v members A) (worth m l v members B)
    layer_value (joined Implies A B) = ap₂ m.arrow (layer_value A) (layer_value B) ∙ twice_arrow l (worth m l v members A) (worth m l v members B)

pub regular_boolean : (m : Meaning) → Lawful m → Boolean (regular m)
regular_boolean m l = subst Boolean (regular_is l) (layer_boolean l)

pub double_negations : LayerValuesAreDoubleNegations
double_negations m l v members A =
    subst (λ k. value k (map (doubled m) v) A ≡ doubled m (value m v A)) (regular_is l) (layer_value l v members A)
