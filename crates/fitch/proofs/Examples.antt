-- The end of a box with a box inside it.
use Rattle.std.proofs.Common.{◌≡◌, ℕ, zero, suc, ◌≤◌, [], ◌∷◌, length, Some, None, sym, refl, ap, subst, inl, inr, arith}
use Rattle.grammar.specs.Formula.{Formula, implication}
use Rattle.fitch.specs.History.{Box, Line, Stands, Shows, Permits, Written}
use Rattle.fitch.specs.Rules.{box, Serves}
use Rattle.fitch.specs.Example.{nested, InnerBox, InnerBoxAnswered}
use Rattle.fitch.specs.Exact.{AllReached}
use Rattle.fitch.specs.declared.mode.Mode.{Mode}
use Rattle.fitch.specs.declared.mode.Mode.TheVariants.{Constructive, Classical}
use Rattle.fitch.specs.declared.refusal.Refusal.TheVariants.{DoesNotFit}
use Rattle.fitch.specs.declared.rule.Rule.TheVariants.{ImpIntro}
use Rattle.fitch.proofs.Answering.{permitted_lines, permitted_cites, exact_acceptance}
use Rattle.fitch.proofs.Resolving.{permit, only}

none_some : {l : Line} → None ≡ Some l → ⊥
none_some e = let z : ◌≡◌ {A = ℕ} 0 1 = cc in omega arith

insides : {k l : Line} → Some k ≡ Some l → k.inside ≡ l.inside
insides {k} {l} e = let f : k ≡ l = cc in ap (λ m. m.inside) f

serves : (mode : Mode) → Serves mode ImpIntro
serves Constructive = tt
serves Classical = tt

module _ (p q : Formula) where
  abbrev outermost : Box
  outermost = record { first = 1; assumes = p }

  latest : (k : ℕ) (D : Formula) → Stands (nested p q) k D (outermost ∷ []) → k ≤ 1
  latest zero D e = omega arith
  latest (suc zero) D e = omega arith
  latest (suc (suc zero)) D e = let n = ap length (insides e) in absurd (omega arith)
  latest (suc (suc (suc k))) D e = absurd (none_some e)

  ends : Shows (nested p q) 1 p p
  ends = record { around = []; end = 1; first = refl; last = refl; latest = latest; closed = λ m. elim m [ ]; reachable = λ b m. elim m [ ] }

  reached : AllReached (nested p q) ImpIntro (1 ∷ []) (box p p ∷ [])
  reached zero lt = (refl, ends)
  reached (suc j) lt = absurd (omega arith)

  permitted : (mode : Mode) → Permits mode (nested p q) (implication p p) ImpIntro (1 ∷ [])
  permitted mode = permit mode (nested p q) (implication p p) ImpIntro (1 ∷ []) (box p p ∷ []) refl reached (serves mode) (p, p, refl, refl)

  unpermitted : (mode : Mode) → (p ≡ q → ⊥) → Permits mode (nested p q) (implication p q) ImpIntro (1 ∷ []) → ⊥
  unpermitted mode apart t =
      let f = only mode (nested p q) (implication p q) ImpIntro (1 ∷ []) (box p p ∷ []) refl reached t in
      let x = f.2 in
      let y = f.3 in
      apart (cc)

  written : (mode : Mode) → Written mode (nested p q)
  written mode = ((refl, omega arith), ((refl, omega arith), ((refl, omega arith, omega arith), ((refl, omega arith, omega arith), (refl, tt)))))

pub inner_box : InnerBox
inner_box mode p q apart = (permitted p q mode, unpermitted p q mode apart)

pub inner_box_answered : InnerBoxAnswered
inner_box_answered mode p q apart fs slice one other room held is held' is' =
    let t = permitted p q mode in (
      written p q mode,
      ((exact_acceptance mode fs slice (nested p q) one).step refl ImpIntro (1 ∷ [])).1 (held, room, (refl, subst (λ A. Permits mode (nested p q) A ImpIntro (1 ∷ [])) (sym is) t, omega arith)),
      (
        DoesNotFit,
        inr (held', inr (refl, inr (permitted_lines t, inr (permitted_cites t, inr (serves mode, inl (refl, λ u. unpermitted p q mode apart (subst (λ A. Permits mode (nested p q) A ImpIntro (1 ∷ [])) is' u))))))),
        refl,
      ),
    )
