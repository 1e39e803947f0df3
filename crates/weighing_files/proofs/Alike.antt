-- Sequents that are alike in what is told weigh alike.
use Rattle.std.proofs.Common.{◌≡◌, ℕ, ◌<◌, List, map, length, Ok, Err, Result, sym, ap, ◌∙◌, subst}
use Rattle.grammar.specs.Contents.{formula_at}
use Rattle.grammar.specs.Formula.{Formula}
use Rattle.fitch.specs.declared.mode.Mode.{Mode}
use Rattle.heyting.specs.Meaning.{Meaning}
use Rattle.heyting.specs.Values.{value, meet_all}
use Rattle.ledger.specs.Sequents.{premise_places}
use Rattle.ledger.specs.declared.sequent.Sequent.{Sequent}
use Rattle.soundness.specs.Soundness.{Entails}
use Rattle.verdicts.specs.Weighing.{AllBelow, Stored, Weighs, Confirms}
use Rattle.verdicts.specs.declared.verdict.Verdict.{Verdict}
use Rattle.answers.specs.declared.unanswered.Unanswered.{Unanswered}
use Rattle.heyting.specs.declared.refusal.Refusal.{Refusal}
use Rattle.algebra_files.specs.Outcomes.{Outcome, Verdicted, Stopped}

module _ (s t : Sequent) (mode : s.mode ≡ t.mode) (premises : premise_places s ≡ premise_places t) (conclusion : s.conclusion ≡ t.conclusion) (fs : List Formula) where
  pub stored_alike : Stored fs s → Stored fs t
  stored_alike p = record { premises = subst (λ ps. AllBelow ps (length fs)) premises p.premises; conclusion = subst (λ k. k < length fs) conclusion p.conclusion }

  stored_back : Stored fs t → Stored fs s
  stored_back p = record { premises = subst (λ ps. AllBelow ps (length fs)) (sym premises) p.premises; conclusion = subst (λ k. k < length fs) (sym conclusion) p.conclusion }

  weighs_alike : (m : Meaning) (v : List ℕ) (verdict : Verdict) → Weighs m fs v s verdict → Weighs m fs v t verdict
  weighs_alike m v verdict p = record {
    meet = p.meet ∙ ap (λ ps. meet_all m v (map (formula_at fs) ps)) premises;
    conclusion = p.conclusion ∙ ap (λ k. value m v (formula_at fs k)) conclusion;
    holds = p.holds;
  }

  abbrev Promise : Meaning → Verdict → Mode → List ℕ → ℕ → Type 0
  Promise m verdict x ps k = Entails x (map (formula_at fs) ps) (formula_at fs k) → Confirms x m verdict

  follows_alike : (m : Meaning) (verdict : Verdict) → Promise m verdict s.mode (premise_places s) s.conclusion → Promise m verdict t.mode (premise_places t) t.conclusion
  follows_alike m verdict p =
      subst (λ k. Promise m verdict t.mode (premise_places t) k) conclusion
      (subst (λ ps. Promise m verdict t.mode ps s.conclusion) premises (subst (λ x. Promise m verdict x (premise_places s) s.conclusion) mode p))

  verdicted_alike : {M : Meaning → Type 0} {vs : List (ℕ × ℕ)} {before after : List ℕ} (verdict : Verdict) → Verdicted M fs vs s before after verdict → Verdicted M fs vs t before after verdict
  verdicted_alike verdict p = record {
    algebra = p.algebra;
    meant = p.meant;
    letters = p.letters;
    elements = p.elements;
    weighed = (stored_alike p.weighed.0, p.weighed.1, weighs_alike p.algebra p.letters verdict p.weighed.2);
    follows = follows_alike p.algebra verdict p.follows;
  }

  stopped_alike :
      {M : Meaning → Type 0} {F : ℕ → Refusal → Type 0} {buffer : List ℕ} (why : Unanswered) → Stopped M F fs s buffer why → Stopped M F fs t buffer why
  stopped_alike why (Stopped.unstored m meant never) = Stopped.unstored m meant (λ p. never (stored_back p))
  stopped_alike why (Stopped.short m meant p less) = Stopped.short m meant (stored_alike p) less
  stopped_alike why (Stopped.faulty n refusal fault late) = Stopped.faulty n refusal fault (λ letter is. (stored_alike (late letter is).0, (late letter is).1))

  pub outcome_alike :
      (M : Meaning → Type 0) (F : ℕ → Refusal → Type 0) (vs : List (ℕ × ℕ)) (before after : List ℕ) (r : Result Verdict Unanswered)
      → Outcome M F fs vs s before after r → Outcome M F fs vs t before after r
  outcome_alike M F vs before after (Ok verdict) p = verdicted_alike verdict p
  outcome_alike M F vs before after (Err why) p = (stopped_alike why p.0, p.1)
