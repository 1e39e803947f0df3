-- A step is permitted exactly where its rule fits what its citations stand for.
use Rattle.std.proofs.Common.{◌≡◌, ℕ, zero, suc, ◌<◌, ◌≤◌, List, [], ◌∷◌, map, length, get_or, sym, refl, ap, ◌∙◌, subst, arith}
use Rattle.std.proofs.lemmas.List.{ext_get_or, get_or-map, length-map}
use Rattle.grammar.specs.Formula.{Formula}
use Rattle.grammar.specs.Formula.Formula.{falsum}
use Rattle.fitch.specs.History.{History, Cites, CitesAll, Permits}
use Rattle.fitch.specs.Rules.{Cited, line, kind, kinds, Fits, Serves}
use Rattle.fitch.specs.Exact.{AllReached, OfTheirKinds}
use Rattle.fitch.specs.declared.mode.Mode.{Mode}
use Rattle.fitch.specs.declared.rule.Rule.{Rule}
use Rattle.fitch.specs.declared.rule.Rule.TheVariants.{Reiterate, AndIntro, AndLeft, AndRight, OrLeft, OrRight, OrElim, ImpIntro, ImpElim, ExFalso, Reductio}
use Rattle.fitch.specs.declared.rule.Kind.TheVariants.{Line as a_line}
use Rattle.fitch.proofs.Citing.{cited_once}

-- a rule has at most three citations
pub kinds_few : (r : Rule) → length (kinds r) ≤ 3
kinds_few Reiterate = omega arith
kinds_few AndIntro = omega arith
kinds_few AndLeft = omega arith
kinds_few AndRight = omega arith
kinds_few OrLeft = omega arith
kinds_few OrRight = omega arith
kinds_few OrElim = omega arith
kinds_few ImpIntro = omega arith
kinds_few ImpElim = omega arith
kinds_few ExFalso = omega arith
kinds_few Reductio = omega arith

pub fits_kinds : OfTheirKinds
fits_kinds Reiterate A cs f = ap (map kind) f
fits_kinds AndIntro A cs f = ap (map kind) f.3
fits_kinds AndLeft A cs f = ap (map kind) f.1
fits_kinds AndRight A cs f = ap (map kind) f.1
fits_kinds OrLeft A cs f = ap (map kind) f.3
fits_kinds OrRight A cs f = ap (map kind) f.3
fits_kinds OrElim A cs f = ap (map kind) f.2
fits_kinds ImpIntro A cs f = ap (map kind) f.3
fits_kinds ImpElim A cs f = ap (map kind) f.1
fits_kinds ExFalso A cs f = ap (map kind) f
fits_kinds Reductio A cs f = ap (map kind) f

cites_all : (h : History) (is : List ℕ) (cs : List Cited) → length cs ≡ length is → ((j : ℕ) → j < length is → Cites h (get_or is j 0) (get_or cs j (line falsum))) → CitesAll h is cs
cites_all h [] [] e p = tt
cites_all h [] (c ∷ cs) e p = absurd (omega arith)
cites_all h (i ∷ is) [] e p = absurd (omega arith)
cites_all h (i ∷ is) (c ∷ cs) e p = (p 0 (omega arith), cites_all h is cs (omega arith) (λ j lt. p (suc j) (omega arith)))

all_cites : (h : History) (is : List ℕ) (cs : List Cited) → CitesAll h is cs → (length cs ≡ length is) × ((j : ℕ) → j < length is → Cites h (get_or is j 0) (get_or cs j (line falsum)))
all_cites h [] [] p = (refl, λ j lt. absurd (omega arith))
all_cites h [] (c ∷ cs) p = absurd p
all_cites h (i ∷ is) [] p = absurd p
all_cites h (i ∷ is) (c ∷ cs) p = (ap suc (all_cites h is cs p.1).0, at (all_cites h is cs p.1).1)
  where
    at : ((j : ℕ) → j < length is → Cites h (get_or is j 0) (get_or cs j (line falsum))) → (j : ℕ) → j < suc (length is) → Cites h (get_or (i ∷ is) j 0) (get_or (c ∷ cs) j (line falsum))
    at q zero lt = p.0
    at q (suc j) lt = q j (omega arith)

module _ (mode : Mode) (h : History) (A : Formula) (r : Rule) (is : List ℕ) (cs : List Cited) (short : length cs ≡ length is) (reached : AllReached h r is cs) where
  pub permit : Serves mode r → Fits r A cs → Permits mode h A r is
  permit s f = record { serves = s; cited = cs; cites = cites_all h is cs short (λ j lt. (reached j lt).1); fits = f }

  same_cited : (p : Permits mode h A r is) → p.cited ≡ cs
  same_cited p =
      let all = all_cites h is p.cited p.cites in
      let ks = fits_kinds r A p.cited p.fits in
      ext_get_or (line falsum) p.cited cs (omega (arith, all.0))
      (λ j lt. cited_once h (get_or is j 0) (get_or p.cited j (line falsum)) (get_or cs j (line falsum))
      (sym (get_or-map kind p.cited j (line falsum) a_line lt) ∙ ap (λ xs. get_or xs j a_line) ks ∙ sym (reached j (omega (arith, all.0))).0)
      (all.1 j (omega (arith, all.0))) (reached j (omega (arith, all.0))).1)

  pub only : Permits mode h A r is → Fits r A cs
  only p = subst (Fits r A) (same_cited p) p.fits

-- what a permitted step cites
module _ {mode : Mode} {h : History} {A : Formula} {r : Rule} {is : List ℕ} (p : Permits mode h A r is) where
  pub permitted_number : length is ≡ length (kinds r)
  permitted_number =
      let all = all_cites h is p.cited p.cites in
      sym all.0 ∙ sym (length-map p.cited kind) ∙ ap length (fits_kinds r A p.cited p.fits)

  pub permitted_reached : AllReached h r is p.cited
  permitted_reached j lt =
      let all = all_cites h is p.cited p.cites in
      let ks = fits_kinds r A p.cited p.fits in
      (sym (get_or-map kind p.cited j (line falsum) a_line (omega (arith, all.0))) ∙ ap (λ xs. get_or xs j a_line) ks, all.1 j lt)
