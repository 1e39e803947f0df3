-- The meet of a list of formulas is the greatest member below the value of each.
use Rattle.std.proofs.Common.{◌≡◌, ℕ, List, [], ◌∷◌, sym, refl, subst, ⊎_elim}
use mathlib.Core.List.Memᴰ
use mathlib.Core.List.{Memᴰ}
use Rattle.grammar.specs.Formula.{Formula}
use Rattle.heyting.specs.Meaning.{Meaning, Member, Below, Lawful}
use Rattle.heyting.specs.Theorems.{Greatest, MeetsAreGreatest}
use Rattle.heyting.specs.Values.{value, meet_from, ByMembers}
use Rattle.heyting.proofs.Lattice.{Elem, ◌⊑◌, top, meet, below_refl, below_trans, meet_left, meet_right, meet_glb, top_greatest}
use Rattle.heyting.proofs.Values.{value_in}

module _ (m : Meaning) (l : Lawful m) (v : List ℕ) (members : ByMembers m v) where
  abbrev pub worth : Formula → Elem m
  worth f = record { at = value m v f; is = value_in m l v members f }

  -- the meet of a list from a on, and why it is the greatest below a and each
  record From (a : Elem m) (fs : List Formula) : Type 0 where
    elem : Elem m
    is : elem.at ≡ meet_from m v a.at fs
    start : elem ⊑ a
    each : (f : Formula) → Memᴰ f fs → elem ⊑ worth f
    greatest : (x : Elem m) → x ⊑ a → ((f : Formula) → Memᴰ f fs → x ⊑ worth f) → x ⊑ elem

  from : (a : Elem m) (fs : List Formula) → From a fs
  unfolding meet
  from a [] = record { elem = a; is = refl; start = below_refl l a; each = λ f h. absurd (Memᴰ.not-nil h); greatest = λ x p q. p }
  from a (f ∷ fs) =
      let rest = from (meet l a (worth f)) fs in
      record {
        elem = rest.elem;
        is = rest.is;
        start = below_trans l rest.start (meet_left l a (worth f));
        each = λ g h. ⊎_elim (λ e. subst (λ y. rest.elem ⊑ worth y) (sym e) (below_trans l rest.start (meet_right l a (worth f)))) (rest.each g) (Memᴰ.cases_cons h);
        greatest = λ x p q. rest.greatest x (meet_glb l p (q f (Memᴰ.head refl))) (λ g h. q g (Memᴰ.tail h));
      }

  pub greatest_meet : (fs : List Formula) → Greatest m v fs
  unfolding top
  greatest_meet fs =
      let all = from (top l) fs in
      record {
        member = subst (Member m) all.is all.elem.is;
        below = λ f h. subst (λ z. Below m z (value m v f)) all.is (all.each f h).below;
        greatest = λ a ha each.
            let x : Elem m = record { at = a; is = ha } in
            subst (Below m a) all.is (all.greatest x (top_greatest l x) (λ f h. record { below = each f h })).below;
      }

pub meets_are_greatest_lem : MeetsAreGreatest
meets_are_greatest_lem m l v members fs = greatest_meet m l v members fs
