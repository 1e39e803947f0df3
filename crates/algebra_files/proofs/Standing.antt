-- What stands below the layer of a file.
use Rattle.std.proofs.Common.{◌≡◌, ℕ, ◌^◌, ◌<◌, List, length, Some, None, Err, Result, refl, sym, ap, ◌∙◌, subst, arith}
use Rattle.answers.specs.declared.fault.Fault.{Fault}
use Rattle.answers.specs.declared.fault.Fault.TheVariants as faults
use Rattle.answers.specs.declared.fault.Reason.TheVariants.{Algebra}
use Rattle.answers.specs.declared.unanswered.Unanswered.{Unanswered}
use Rattle.answers.specs.declared.unanswered.Unanswered.TheVariants.{Faulty}
use Rattle.grammar.specs.Formula.{Formula}
use Rattle.heyting.specs.Layers.{Pairable, product}
use Rattle.heyting.specs.Loading.{Unloadable}
use Rattle.heyting.specs.Meaning.{Meaning}
use Rattle.heyting.specs.declared.refusal.Refusal.{Refusal}
use Rattle.heyting.specs.declared.refusal.Refusal.TheVariants.{SpanTooLarge, LetterNotMember}
use Rattle.ledger.specs.declared.sequent.Sequent.{Sequent}
use Rattle.verdicts.specs.declared.verdict.Verdict.{Verdict}
use Rattle.algebra_files.specs.Faults.{record_at, second_record, layer_record, LayerFault, FileFault}
use Rattle.entries.specs.AlgebraFiles.{Base, File, base_said, optional}
use Rattle.algebra_files.specs.Meant.{Loads, Founds, Layered, Means}
use Rattle.algebra_files.specs.Outcomes.{BaseLoaded, Stopped, Outcome}
use Rattle.algebra_files.proofs.Widening.{widened}

-- a base that is not loaded has no letter at fault
no_letter : (n : ℕ) (ps : List (ℕ × ℕ)) (r : Refusal) (letter : ℕ) → Unloadable n ps r → r ≡ LetterNotMember letter → ⊥
no_letter n ps r letter u is = subst (Unloadable n ps) is u

module _ (first : ℕ) (f : File) (fs : List Formula) (s : Sequent) (before : List ℕ) where
  abbrev FileStopped : Fault → Type 0
  FileStopped fault = Stopped (Means f) (FileFault first f) fs s before (Faulty fault)

  pub first_wrong : (fault : Fault) → BaseLoaded f.first first (Err fault) → FileStopped fault
  first_wrong fault h =
      subst FileStopped (sym h.1) (Stopped.faulty _ h.0 (FileFault.first_base h.0 h.2) (λ letter is. absurd (no_letter f.first.worlds f.first.pairs h.0 letter h.2 is)))

  module _ (m : Meaning) (loads : Loads f.first m) where
    second_at : (b : Base) (fault : Fault) → f.second ≡ Some b → BaseLoaded b (second_record first f) (Err fault) → FileStopped fault
    second_at b fault is h =
        subst FileStopped (sym h.1) (Stopped.faulty _ h.0 (FileFault.second_base b h.0 loads.loadable is h.2) (λ letter other. absurd (no_letter b.worlds b.pairs h.0 letter h.2 other)))

    pub second_wrong : (b : Base) (n : ℕ) (fault : Fault) → f.second ≡ Some b → n ≡ second_record first f → BaseLoaded b n (Err fault) → FileStopped fault
    second_wrong b n fault is here h = second_at b fault is (subst (λ i. BaseLoaded b i (Err fault)) here h)

    pub too_large : (b : Base) (k : Meaning) (n : ℕ) (fault : Fault) → f.second ≡ Some b → Loads b k → (Pairable m k → ⊥) → n ≡ second_record first f → fault ≡ faults.At n (Algebra SpanTooLarge) → FileStopped fault
    too_large b k n fault is second large here told =
        subst FileStopped (sym told)
        (Stopped.faulty n SpanTooLarge (subst (λ i. FileFault first f i SpanTooLarge) (sym here) (FileFault.too_large b m k loads is second large)) (λ letter other. cc))

    pub alone : f.second ≡ None → Founds f.first f.second m
    alone is = subst (λ o. Founds f.first o m) (sym is) loads

    pub paired : (b : Base) (k : Meaning) → f.second ≡ Some b → Loads b k → Pairable m k → Founds f.first f.second (product m k)
    paired b k is second small =
        subst (λ o. Founds f.first o (product m k)) (sym is)
        (record { left = m; right = k; left_is = loads; right_is = second; small = small; product_is = refl })

  pub alone_record : (n : ℕ) → f.second ≡ None → n ≡ second_record first f → n < 2 ^ 64 → n ≡ layer_record first f
  alone_record n is here fits =
      let same : n ≡ record_at n 0 = omega arith in
      same ∙ (ap (λ i. record_at i 0) here ∙ ap (λ o. record_at (second_record first f) (length (optional base_said o))) (sym is))

  pub paired_record : (b : Base) (n i : ℕ) → f.second ≡ Some b → n ≡ second_record first f → i ≡ record_at n (length (base_said b)) → i ≡ layer_record first f
  paired_record b n i is here next =
      next ∙ (ap (λ j. record_at j (length (base_said b))) here ∙ ap (λ o. record_at (second_record first f) (length (optional base_said o))) (sym is))

  -- over k, which is m
  pub standing :
      (m k : Meaning) (n : ℕ) (after : List ℕ) (r : Result Verdict Unanswered) → Founds f.first f.second m → n ≡ layer_record first f → k ≡ m
      → Outcome (Layered k f.layer) (LayerFault k f.layer f.values n) fs f.values s before after r
      → Outcome (Means f) (FileFault first f) fs f.values s before after r
  standing m k n after r founded here same h =
      widened (Layered m f.layer) (Means f) (LayerFault m f.layer f.values n) (FileFault first f) (λ o layered. record { below = m; founded = founded; layered = layered })
      (λ i refusal fault. FileFault.above m i refusal founded (subst (λ j. LayerFault m f.layer f.values j i refusal) here fault)) fs f.values s before after r
      (subst (λ x. Outcome (Layered x f.layer) (LayerFault x f.layer f.values n) fs f.values s before after r) same h)
