-- Whether two formulas are the same, and whether a list holds one.
use Rattle.std.proofs.Common.{◌≡◌, ℕ, zero, suc, ◌<◌, true, false, ◌&&◌, List, [], ◌∷◌, length, sym, refl, ap, ◌∙◌, ⊎_elim, arith}
use Rattle.std.proofs.lemmas.List.{get_or-take, length-take-le}
use Rattle.std.proofs.lemmas.Bool.{eqb-true, eq-eqb, and_parts, and_from, or_cases, or_left, or_right, cases_order, cases_Bool, both_ways, true≢false}
use Rattle.grammar.specs.Formula.{Formula}
use Rattle.grammar.specs.Formula.Formula.{falsum, letter, joined}
use Rattle.grammar.specs.Contents.{formula_at, same_connective, same, holds, Once}
use Rattle.grammar.specs.declared.connective.Connective.{Connective}
use Rattle.grammar.specs.declared.connective.Connective.TheVariants.{And, Or, Implies}

same_connective_refl : (k : Connective) → same_connective k k ≡ true
same_connective_refl And = refl
same_connective_refl Or = refl
same_connective_refl Implies = refl

same_connective_true : (j k : Connective) → same_connective j k ≡ true → j ≡ k
same_connective_true And And e = refl
same_connective_true And Or e = absurd (true≢false (sym e))
same_connective_true And Implies e = absurd (true≢false (sym e))
same_connective_true Or And e = absurd (true≢false (sym e))
same_connective_true Or Or e = refl
same_connective_true Or Implies e = absurd (true≢false (sym e))
same_connective_true Implies And e = absurd (true≢false (sym e))
same_connective_true Implies Or e = absurd (true≢false (sym e))
same_connective_true Implies Implies e = refl

pub same_refl : (f : Formula) → same f f ≡ true
same_refl falsum = refl
same_refl (letter c) = eq-eqb c c refl
same_refl (joined k f g) = and_from _ _ (and_from _ _ (same_connective_refl k) (same_refl f)) (same_refl g)

pub same_true : (f g : Formula) → same f g ≡ true → f ≡ g
same_true falsum falsum e = refl
same_true falsum (letter d) e = absurd (true≢false (sym e))
same_true falsum (joined k f g) e = absurd (true≢false (sym e))
same_true (letter c) falsum e = absurd (true≢false (sym e))
same_true (letter c) (letter d) e = ap letter (eqb-true c d e)
same_true (letter c) (joined k f g) e = absurd (true≢false (sym e))
same_true (joined k f g) falsum e = absurd (true≢false (sym e))
same_true (joined k f g) (letter d) e = absurd (true≢false (sym e))
same_true (joined k f g) (joined k' f' g') e =
    let p = and_parts (same_connective k k' && same f f') (same g g') e in
    let q = and_parts (same_connective k k') (same f f') p.0 in
    let a = same_connective_true k k' q.0 in
    let b = same_true f f' q.1 in
    let c = same_true g g' p.1 in
    λ i. joined (a i) (b i) (c i)

pub holds_at : (fs : List Formula) (f : Formula) (p : ℕ) → p < length fs → formula_at fs p ≡ f → holds fs f ≡ true
holds_at [] f p h e = absurd (omega arith)
holds_at (g ∷ fs) f zero h e = or_left _ _ (ap (λ x. same x f) e ∙ same_refl f)
holds_at (g ∷ fs) f (suc p) h e = or_right (same g f) _ (holds_at fs f p (omega arith) e)

pub holds_where : (fs : List Formula) (f : Formula) → holds fs f ≡ true → (p : ℕ) × (p < length fs) × (formula_at fs p ≡ f)
holds_where [] f e = absurd (true≢false (sym e))
holds_where (g ∷ fs) f e =
    ⊎_elim (λ s. (0, omega arith, same_true g f s)) (λ r. let w = holds_where fs f r in (suc w.0, omega (arith, w.1), w.2)) (or_cases (same g f) (holds fs f) e)

pub not_holds : (fs : List Formula) (f : Formula) → ((p : ℕ) → p < length fs → formula_at fs p ≡ f → ⊥) → holds fs f ≡ false
not_holds fs f h = ⊎_elim (λ t. let w = holds_where fs f t in absurd (h w.0 w.1 w.2)) (λ e. e) (cases_Bool (holds fs f))

-- a formula that is held once stands at one place
module _ (fs : List Formula) (once : Once fs) where
  not_before : (i j : ℕ) → i < j → j < length fs → formula_at fs i ≡ formula_at fs j → ⊥
  not_before i j h l e =
      both_ways _ (once j l) (holds_at _ _ i (omega (arith, length-take-le j fs (omega arith))) (get_or-take j fs i falsum h ∙ e))

  pub one_place : (i j : ℕ) → i < length fs → j < length fs → formula_at fs i ≡ formula_at fs j → i ≡ j
  one_place i j hi hj e = ⊎_elim (λ s. s) (⊎_elim (λ l. absurd (not_before i j l hj e)) (λ l. absurd (not_before j i l hi (sym e)))) (cases_order i j)
