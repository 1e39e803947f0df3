-- Every call has one answer, and is accepted exactly where the history accepts it.
use Rattle.std.proofs.Common.{◌≡◌, ℕ, ◌<◌, List, [], ◌∷◌, ◌++◌, get_or, Some, None, Option, sym, ap, ◌∙◌, inl, inr, arith}
use native.Mathlib.Decide.{dec_lt}
use Rattle.grammar.specs.Formula.{Formula}
use Rattle.grammar.specs.Formula.Formula.{falsum}
use Rattle.fitch.specs.Calls.{named, reached, OneAnswers, ExactAcceptance}
use Rattle.fitch.specs.Checks.{Check, unless, Accepted, Refused, OneAnswer}
use Rattle.fitch.specs.Exact.{FirstOf, NoneMissing, NoneCutOff}
use Rattle.fitch.specs.History.{History, Line, line_at, Cites, Permits}
use Rattle.fitch.specs.Rules.{Cited, line, box}
use Rattle.fitch.specs.declared.mode.Mode.{Mode}
use Rattle.fitch.specs.declared.refusal.Refusal.{Refusal}
use Rattle.fitch.specs.declared.refusal.Refusal.TheVariants.{NoSuchLine, NotReachable}
use Rattle.fitch.specs.declared.rule.Rule.{Rule}
use Rattle.fitch.proofs.Resolving.{permitted_number, permitted_reached}

-- a check that does not both pass and fail, and fails by one refusal
record Clear (c : Check) : Type 0 where
  apart : (e : Refusal) → c.passes → c.fails e → ⊥
  single : (e d : Refusal) → c.fails e → c.fails d → e ≡ d

abbrev AllClear : List Check → Type 0
AllClear [] = Unit {0}
AllClear (c ∷ cs) = Clear c × AllClear cs

clear_unless : {P : Type 0} (e : Refusal) → Clear (unless e P)
clear_unless e = record { apart = λ d p q. q.1 p; single = λ d d' p q. p.0 ∙ sym q.0 }

one_answer : (cs : List Check) → AllClear cs → OneAnswer cs
one_answer cs a = record { apart = apart cs a; single = single cs a }
  where
    apart : (cs : List Check) → AllClear cs → (e : Refusal) → Accepted cs → Refused cs e → ⊥
    apart [] a e p q = q
    apart (c ∷ cs) a e p (inl q) = a.0.apart e p.0 q
    apart (c ∷ cs) a e p (inr q) = apart cs a.1 e p.1 q.1

    single : (cs : List Check) → AllClear cs → (e d : Refusal) → Refused cs e → Refused cs d → e ≡ d
    single [] a e d p q = absurd p
    single (c ∷ cs) a e d (inl p) (inl q) = a.0.single e d p q
    single (c ∷ cs) a e d (inl p) (inr q) = absurd (a.0.apart e q.0 p)
    single (c ∷ cs) a e d (inr p) (inl q) = absurd (a.0.apart d p.0 q)
    single (c ∷ cs) a e d (inr p) (inr q) = single cs a.1 e d p.1 q.1

-- what fails among the first checks
pub refused_among : (cs ds : List Check) (e : Refusal) → Refused cs e → Refused (cs ++ ds) e
refused_among [] ds e r = absurd r
refused_among (c ∷ cs) ds e (inl f) = inl f
refused_among (c ∷ cs) ds e (inr r) = inr (r.0, refused_among cs ds e r.1)

-- citations

some_none : {o : Option Line} → (l : Line) × (o ≡ Some l) → o ≡ None → ⊥
some_none g b = let e = g.1 in let z : ◌≡◌ {A = ℕ} 0 1 = cc in omega arith

-- what is bad first is one
same_first : {Good Bad : ℕ → Type 0} {n k m : ℕ} → ((j : ℕ) → Good j → Bad j → ⊥) → FirstOf Good Bad n k → FirstOf Good Bad n m → k ≡ m
same_first {k = k} {m} apart p q = at (dec_lt p.0 q.0) (dec_lt q.0 p.0)
  where
    at : Dec (p.0 < q.0) → Dec (q.0 < p.0) → k ≡ m
    at (yes lt) d = absurd (apart p.0 (q.4 p.0 lt) p.3)
    at (no a) (yes lt) = absurd (apart q.0 (p.4 q.0 lt) q.3)
    at (no a) (no b) = omega (arith, p.1, q.1)

clear_named : (h : History) (is : List ℕ) → Clear (named h is)
clear_named h is = record {
  apart = λ e all f. some_none (all f.2.0 f.2.2) f.2.3;
  single = λ e d p q. p.1 ∙ ap NoSuchLine (same_first (λ j g b. some_none g b) p.2 q.2) ∙ sym q.1;
}

clear_reached : (h : History) (r : Rule) (is : List ℕ) → Clear (reached h r is)
clear_reached h r is = record {
  apart = λ e all f. (let c = all f.2.0 f.2.2 in f.2.3 c.0 c.1);
  single = λ e d p q. p.1 ∙ ap NotReachable (same_first (λ j g b. b g.0 g.1) p.2 q.2) ∙ sym q.1;
}

pub one_answers : OneAnswers
one_answers = record {
  premise = λ fs slice h place. one_answer _ (clear_unless _, (clear_unless _, (clear_unless _, tt)));
  assume = λ fs slice h place. one_answer _ (clear_unless _, (clear_unless _, (clear_unless _, tt)));
  step = λ mode fs slice h place r is. one_answer _ (clear_unless _, (clear_unless _, (clear_named h is, (clear_reached h r is, (clear_unless _, (clear_unless _, (clear_unless _, tt)))))));
  close = λ h. one_answer _ (clear_unless _, tt);
  line = λ h i. one_answer _ (clear_unless _, tt);
  sequent = λ h. one_answer _ (clear_unless _, (clear_unless _, tt));
}

-- what a permitted step cites

cited_line : (h : History) (i : ℕ) (c : Cited) → Cites h i c → (l : Line) × (line_at h i ≡ Some l)
cited_line h i (line A) p = (_, p.stands)
cited_line h i (box A C) p = (_, p.first)

module _ {mode : Mode} {h : History} {A : Formula} {r : Rule} {is : List ℕ} (p : Permits mode h A r is) where
  pub permitted_cites : NoneCutOff h r is
  permitted_cites j lt = (get_or p.cited j (line falsum), permitted_reached p j lt)

  pub permitted_lines : NoneMissing h is
  permitted_lines j lt = cited_line h (get_or is j 0) _ (permitted_reached p j lt).1

pub exact_acceptance : ExactAcceptance
exact_acceptance mode fs slice h place = record {
  premise = λ g. ((λ a. (a.0, a.1.1.0.1, (g, a.1.0, a.1.1.0.0))), (λ t. (t.0, (t.2.1, ((t.2.2, t.1), tt)))));
  assume = λ g. ((λ a. (a.0, a.1.1.0.1, (g, a.1.0, a.1.1.0.0))), (λ t. (t.0, (t.2.1, ((t.2.2, t.1), tt)))));
  step = λ g r is. (
    (λ a. let b = a.1.1.1.1.1 in (a.0, b.1.0.1, (g, b.0, b.1.0.0))),
    (λ t. let p = t.2.1 in (t.0, (permitted_number p, (permitted_lines p, (permitted_cites p, (p.serves, (p, ((t.2.2, t.1), tt)))))))),
  );
  close = λ g. ((λ a. (g, a.0)), (λ t. (t.1, tt)));
}
