-- When a rule gives a formula, place by place.
use Rattle.std.proofs.Common.{◌≡◌, ℕ, ◌<◌, Bool, false, true, ◌&&◌, eqb, Option, Some, None, MatchOption, List, [], ◌∷◌, length, Decides, sym, subst, ap, ◌∙◌, arith, eq-eqb, eqb-true}
use Rattle.std.specs.Option.{option_eq}
use Rattle.std.proofs.lemmas.Bool.{and_parts, and_from}
use borrow.Author.Tests.{clash}
use Rattle.grammar.specs.Contents.{formula_at, Base, Once}
use Rattle.grammar.specs.Formula.{Formula}
use Rattle.grammar.specs.Formula.Formula.{falsum}
use Rattle.grammar.specs.declared.connective.Connective.{Connective}
use Rattle.grammar.specs.declared.connective.Connective.TheVariants.{And, Or, Implies}
use Rattle.grammar.proofs.Sameness.{same_true, one_place}
use Rattle.fitch.specs.Rules.{line}
use Rattle.fitch.specs.declared.rule.Rule.TheVariants.{Reiterate, OrElim, ExFalso, Reductio}
use Rattle.shapes.specs.Giving.{Gives}
use Rattle.shapes.specs.Joined.{Joined, NotJoined}
use Rattle.shapes.specs.Sides.{part_on, taking, widening}
use Rattle.shapes.specs.declared.side.Side.{Side}
use Rattle.shapes.specs.declared.side.Side.TheVariants.{Left, Right}
use Rattle.shapes.specs.declared.cited.Cited.TheVariants.{Line, Box}

pub never : {P : Type 0} → (P → ⊥) → Decides false P
never n = ((λ e. absurd (clash e)), (λ p. absurd (n p)))

pub decided : {r : Bool} {P Q : Type 0} → (P → Q) → (Q → P) → Decides r P → Decides r Q
decided f g d = ((λ e. f (d.0 e)), (λ q. d.1 (g q)))

-- an answer that is false where nothing was found, and else told by what was found
pub found : {X G N : Type 0} {J Q : X → Type 0} {b : Bool} (r : Option X) → MatchOption r N J → MatchOption r (b ≡ false) Q → (N → G → ⊥) → ((x : X) → J x → Q x → Decides b G) → Decides b G
found {G = G} None n e missing told = subst (λ v. Decides v G) (sym e) (never (missing n))
found (Some x) j q missing told = told x j q

module _ (fs : List Formula) (once : Once fs) where
  abbrev at : ℕ → Formula
  at = formula_at fs

  -- one place has the formula of another exactly if it is that place
  pub same_place : (i j : ℕ) → i < length fs → j < length fs → Decides (eqb i j) (at i ≡ at j)
  same_place i j p q = ((λ e. ap at (eqb-true i j e)), (λ e. eq-eqb i j (one_place fs once i j p q e)))

  -- the parts of a joined formula
  module _ {p a b x y : ℕ} {k : Connective} where
    same_parts : Joined fs p k a b → Joined fs p k x y → (a ≡ x) × (b ≡ y)
    same_parts i j =
        let e = i.is in
        let d = j.is in
        let u : at a ≡ at x = cc in
        let v : at b ≡ at y = cc in
        (one_place fs once a x i.first_in j.first_in u, one_place fs once b y i.second_in j.second_in v)

    parts_decide : Joined fs p k a b → Decides (eqb a x && eqb b y) (Joined fs p k x y)
    parts_decide i = (
      (λ t.
          let both = and_parts (eqb a x) (eqb b y) t in
          let e = eqb-true a x both.0 in
          let d = eqb-true b y both.1 in
          record { whole_in = i.whole_in; first_in = omega (arith, i.first_in); second_in = omega (arith, i.second_in); is = let u = ap at e in let v = ap at d in let w = i.is in cc }),
      (λ j. let same = same_parts i j in and_from _ _ (eq-eqb a x same.0) (eq-eqb b y same.1)),
    )

  -- the parts that were found, if any, are those that are asked for
  pub found_decide : (p x y : ℕ) (k : Connective) (r : Option (ℕ × ℕ)) → MatchOption r (NotJoined fs p k) (λ q. Joined fs p k q.0 q.1) → Decides (option_eq (λ i j. eqb i.0 j.0 && eqb i.1 j.1) r (Some (x, y))) (Joined fs p k x y)
  found_decide p x y k None none = never (λ j. none j.whole_in _ _ j.is)
  found_decide p x y k (Some (a, b)) i = parts_decide i

  pub gives_reiterate : (f a : ℕ) → f < length fs → Decides (eqb a f) (Gives fs f Reiterate (Line a ∷ []))
  gives_reiterate f a held = (
    (λ e. let q = eqb-true a f e in record { stored = held; cited = (omega arith, tt); fits = ap (λ i. line (at i) ∷ []) q }),
    (λ g. let e = g.fits in let q : at a ≡ at f = cc in (same_place a f g.cited.0 held).1 q),
  )

  -- a part on a side, and the rules that differ in the side alone

  pub gives_taking : (side : Side) (f a : ℕ) (p : ℕ × ℕ) → Joined fs a And p.0 p.1 → Decides (eqb (part_on side p) f) (Gives fs f (taking side) (Line a ∷ []))
  gives_taking Left f a (x, y) j =
      let w = j.is in (
        (λ e. let q = eqb-true x f e in let l = j.first_in in record { stored = omega arith; cited = (j.whole_in, tt); fits = (at y, let u = ap at q in cc) }),
        (λ g. let e = g.fits.1 in let q : at x ≡ at f = cc in (same_place x f j.first_in g.stored).1 q),
      )
  gives_taking Right f a (x, y) j =
      let w = j.is in (
        (λ e. let q = eqb-true y f e in let l = j.second_in in record { stored = omega arith; cited = (j.whole_in, tt); fits = (at x, let u = ap at q in cc) }),
        (λ g. let e = g.fits.1 in let q : at y ≡ at f = cc in (same_place y f j.second_in g.stored).1 q),
      )

  pub none_taking : (side : Side) (f a : ℕ) → NotJoined fs a And → Gives fs f (taking side) (Line a ∷ []) → ⊥
  none_taking Left f a none g = let e = g.fits.1 in none g.cited.0 (at f) g.fits.0 cc
  none_taking Right f a none g = let e = g.fits.1 in none g.cited.0 g.fits.0 (at f) cc

  pub gives_widening : (side : Side) (f a : ℕ) (p : ℕ × ℕ) → Joined fs f Or p.0 p.1 → Decides (eqb (part_on side p) a) (Gives fs f (widening side) (Line a ∷ []))
  gives_widening Left f a (x, y) j =
      let w = j.is in (
        (λ e. let q = eqb-true x a e in let l = j.first_in in record { stored = j.whole_in; cited = (omega arith, tt); fits = (at x, at y, w, ap (λ i. line (at i) ∷ []) (sym q)) }),
        (λ g. let e = g.fits.2 in let d = g.fits.3 in let q : at x ≡ at a = cc in (same_place x a j.first_in g.cited.0).1 q),
      )
  gives_widening Right f a (x, y) j =
      let w = j.is in (
        (λ e. let q = eqb-true y a e in let l = j.second_in in record { stored = j.whole_in; cited = (omega arith, tt); fits = (at x, at y, w, ap (λ i. line (at i) ∷ []) (sym q)) }),
        (λ g. let e = g.fits.2 in let d = g.fits.3 in let q : at y ≡ at a = cc in (same_place y a j.second_in g.cited.0).1 q),
      )

  pub none_widening : (side : Side) (f a : ℕ) → NotJoined fs f Or → Gives fs f (widening side) (Line a ∷ []) → ⊥
  none_widening Left f a none g = none g.stored _ _ g.fits.2
  none_widening Right f a none g = none g.stored _ _ g.fits.2

  pub gives_or_elim : {r : Bool} (f a x d y e : ℕ) → f < length fs → d ≡ f → e ≡ f → Decides r (Joined fs a Or x y) → Decides r (Gives fs f OrElim (Line a ∷ Box x d ∷ Box y e ∷ []))
  gives_or_elim f a x d y e held p q =
      let u = ap at p in
      let v = ap at q in
      decided (λ j. let w = j.is in record { stored = held; cited = (j.whole_in, ((j.first_in, omega arith), ((j.second_in, omega arith), tt))); fits = (at x, at y, cc) })
      (λ g. let z = g.fits.2 in record { whole_in = g.cited.0; first_in = g.cited.1.0.0; second_in = g.cited.1.1.0.0; is = cc })

  -- both boxes end with the formula
  pub boxes_end : (f a x d y e : ℕ) → Gives fs f OrElim (Line a ∷ Box x d ∷ Box y e ∷ []) → (eqb d f && eqb e f) ≡ true
  boxes_end f a x d y e g =
      let z = g.fits.2 in
      let u : at d ≡ at f = cc in
      let v : at e ≡ at f = cc in
      and_from _ _ ((same_place d f g.cited.1.0.1 g.stored).1 u) ((same_place e f g.cited.1.1.0.1 g.stored).1 v)

  module _ (base : Base fs) where
    none : 0 < length fs
    none = omega (arith, base.0)

    falsum_first : at 0 ≡ falsum
    falsum_first = same_true _ _ (base.1 0 (omega arith))

    is_falsum : (i : ℕ) → i < length fs → at i ≡ falsum → i ≡ 0
    is_falsum i p e = one_place fs once i 0 p none (e ∙ sym falsum_first)

    pub gives_ex_falso : (f a : ℕ) → f < length fs → Decides (eqb a 0) (Gives fs f ExFalso (Line a ∷ []))
    gives_ex_falso f a held = (
      (λ e. let q = eqb-true a 0 e in let n = none in record { stored = held; cited = (omega arith, tt); fits = ap (λ A. line A ∷ []) (ap at q ∙ falsum_first) }),
      (λ g. let e = g.fits in let q : at a ≡ falsum = cc in eq-eqb a 0 (is_falsum a g.cited.0 q)),
    )

    pub gives_reductio : {r : Bool} (f x d : ℕ) → d ≡ 0 → Decides r (Joined fs x Implies f 0) → Decides r (Gives fs f Reductio (Box x d ∷ []))
    gives_reductio f x d p =
        let u = ap at p in
        let v = falsum_first in
        let n = none in
        decided (λ j. let w = j.is in record { stored = j.first_in; cited = ((j.whole_in, omega arith), tt); fits = cc })
        (λ g. let z = g.fits in record { whole_in = g.cited.0.0; first_in = g.stored; second_in = n; is = cc })

    pub ends_with_falsum : (f x d : ℕ) → Gives fs f Reductio (Box x d ∷ []) → d ≡ 0
    ends_with_falsum f x d g = let z = g.fits in let q : at d ≡ falsum = cc in is_falsum d g.cited.0.1 q
