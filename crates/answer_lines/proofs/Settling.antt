-- An answer has one line.
use Rattle.std.proofs.Common.{◌≡◌, ℕ, ◌∷◌, List, map, codes, Ok, Err, Result, refl, sym, ap, ◌∙◌, subst, arith}
use Rattle.std.specs.Fmt.{decimal}
use Rattle.grammar.specs.Formula.{Formula}
use Rattle.grammar.specs.Writing.{text_at}
use Rattle.ledger.specs.Sequents.{premise_places}
use Rattle.verdicts.specs.declared.verdict.Verdict.{Verdict}
use Rattle.answers.specs.Rows.{row, checked_row, verdict_row, fault_row}
use Rattle.entries.specs.Kinds.{mode_letter}
use Rattle.answers.specs.declared.checked.Checked.{Checked}
use Rattle.answers.specs.declared.unanswered.Unanswered.{Unanswered}
use Rattle.answers.specs.declared.unanswered.Unanswered.TheVariants as answers
use Rattle.scripts.specs.Settled.{SameShown}
use Rattle.checking.specs.Unique.{SameChecking}
use Rattle.answer_lines.specs.Lines.{LinePrinted, NoLine, UnansweredPrinted, CheckedPrinted, VerdictPrinted}
use Rattle.answer_lines.specs.Settled.{OneLine}
use Rattle.answer_lines.specs.declared.unprinted.Unprinted.{Unprinted}
use Rattle.answer_lines.specs.declared.unprinted.Unprinted.TheVariants.{ShortEntries, ShortValues, ShortBuffer}

module _ (before a b : List ℕ) where
  line_once : (line : List ℕ) (r q : Result ℕ Unprinted) → LinePrinted line before a r → LinePrinted line before b q → (r ≡ q) × (a ≡ b)
  line_once line (Ok n) (Ok m) p t = (ap (λ k. Ok k) (p.0 ∙ sym t.0), p.2 ∙ sym t.2)
  line_once line (Ok n) (Err ShortBuffer) p t = absurd (omega (arith, p.0, p.1, t.0))
  line_once line (Ok n) (Err ShortEntries) p t = absurd t
  line_once line (Ok n) (Err ShortValues) p t = absurd t
  line_once line (Err ShortEntries) q p t = absurd p
  line_once line (Err ShortValues) q p t = absurd p
  line_once line (Err ShortBuffer) (Ok m) p t = absurd (omega (arith, t.0, t.1, p.0))
  line_once line (Err ShortBuffer) (Err ShortBuffer) p t = (refl, p.1 ∙ sym t.1)
  line_once line (Err ShortBuffer) (Err ShortEntries) p t = absurd t
  line_once line (Err ShortBuffer) (Err ShortValues) p t = absurd t

  none_once : (why : Unprinted) (r q : Result ℕ Unprinted) → NoLine why before a r → NoLine why before b q → (r ≡ q) × (a ≡ b)
  none_once why r q p t = (p.0 ∙ sym t.0, p.1 ∙ sym t.1)

  unanswered_once : (why : Unanswered) (r q : Result ℕ Unprinted) → UnansweredPrinted why before a r → UnansweredPrinted why before b q → (r ≡ q) × (a ≡ b)
  unanswered_once answers.ShortEntries r q p t = none_once ShortEntries r q p t
  unanswered_once answers.NotStored r q p t = absurd p
  unanswered_once answers.ShortValues r q p t = none_once ShortValues r q p t
  unanswered_once (answers.Faulty fault) r q p t = line_once (fault_row fault) r q p t

  verdict_once : (v : Result Verdict Unanswered) (r q : Result ℕ Unprinted) → VerdictPrinted v before a r → VerdictPrinted v before b q → (r ≡ q) × (a ≡ b)
  verdict_once (Ok verdict) r q p t = line_once (verdict_row verdict) r q p t
  verdict_once (Err why) r q p t = unanswered_once why r q p t

  same_row : (fs : List Formula) (c d : Checked) → SameShown c d → checked_row fs c ≡ checked_row fs d
  same_row fs c d same =
      ap (λ m. row (codes "OK" ∷ mode_letter m ∷ decimal c.lines ∷ text_at fs c.sequent.conclusion ∷ map (text_at fs) (premise_places c.sequent))) same.mode
      ∙ ap (λ n. row (codes "OK" ∷ mode_letter d.sequent.mode ∷ decimal n ∷ text_at fs c.sequent.conclusion ∷ map (text_at fs) (premise_places c.sequent))) same.lines
      ∙ ap (λ k. row (codes "OK" ∷ mode_letter d.sequent.mode ∷ decimal d.lines ∷ text_at fs k ∷ map (text_at fs) (premise_places c.sequent))) same.conclusion
      ∙ ap (λ ps. row (codes "OK" ∷ mode_letter d.sequent.mode ∷ decimal d.lines ∷ text_at fs d.sequent.conclusion ∷ map (text_at fs) ps)) same.premises

  checked_once :
      (fs : List Formula) (x y : Result Checked Unanswered) (r q : Result ℕ Unprinted) → SameChecking x y → CheckedPrinted fs x before a r → CheckedPrinted fs y before b q → (r ≡ q) × (a ≡ b)
  checked_once fs (Ok c) (Ok d) r q same p t = line_once (checked_row fs d) r q (subst (λ line. LinePrinted line before a r) (same_row fs c d same) p) t
  checked_once fs (Ok c) (Err w) r q same p t = absurd same
  checked_once fs (Err v) (Ok d) r q same p t = absurd same
  checked_once fs (Err v) (Err w) r q same p t = unanswered_once w r q (subst (λ why. UnansweredPrinted why before a r) same p) t

pub one_line : OneLine
one_line = record {
  checked = λ n s fs gs hs es ea eb ls la lb before a b r q p t.
      let same = p.only.only hs eb lb t.answer t.only.checks in
      checked_once before a b gs p.answer t.answer r q same.0 p.printed (subst (λ ks. CheckedPrinted ks t.answer before b q) (sym same.1) t.printed);
  weighed = λ n s fs gs hs es ea eb ls la lb vs va vb before a b r q p t.
      let same = p.only.only hs eb lb vb t.answer t.only.weighs in
      verdict_once before a b t.answer r q (subst (λ v. VerdictPrinted v before a r) same.0 p.printed) t.printed;
}
