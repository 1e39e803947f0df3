-- The examples, from the definitions.
use Rattle.std.proofs.Common.{◌≡◌, ℕ, zero, suc, ◌+◌, ◌<◌, ◌≤◌, List, [], ◌∷◌, length, Ok, Err, codes, refl, arith, lit<, lit≤}
use Rattle.grammar.specs.Formula.{Formula, negation}
use Rattle.grammar.specs.Formula.Formula.{letter}
use Rattle.grammar.specs.Symbols.{signs}
use Rattle.grammar.specs.Texts.{Text, NoFormula}
use Rattle.grammar.specs.Contents.{formula_at, basic, entered}
use Rattle.grammar.specs.Examples.{Answers, tildes_p, Examples}
use Rattle.grammar.specs.Reading.{Readable}
use Rattle.grammar.specs.Scanning.Awaited.{formula, close}
use Rattle.grammar.specs.declared.refusal.Refusal.TheVariants.{NotFormula}
use Rattle.grammar.proofs.Automaton.{run_text, awaits_none}
use Rattle.grammar.proofs.Basics.{basics_good}
use Rattle.grammar.proofs.FirstPlaces.{stuck_none}
use Rattle.grammar.proofs.Readings.{reads_at, no_formula, too_deep}

answers_at : (least : ℕ) (s : List ℕ) (f : Formula) (p : ℕ) → Readable s f → 27 + signs s ≤ least → p < length (entered basic f) → formula_at (entered basic f) p ≡ f → Answers least s (Ok p)
answers_at least s f p r room l here c h = (
  (entered basic f, ((f, r, record { held = refl; within = l; found = here }), omega arith)),
  λ gs a w. reads_at s c basic gs f r p basics_good.once (l, here) (omega arith) a w,
)

answers_wrong : (s : List ℕ) (i : ℕ) → length s ≤ 1024 → NoFormula s i → Answers 27 s (Err (NotFormula i))
answers_wrong s i short n c h = ((basic, ((short, n), refl)), λ gs a w. no_formula s c basic gs short i n a w)

abbrev p_letter : Formula
p_letter = letter 112

p_text : Text p_letter (112 ∷ [])
p_text = Text.letter (lit≤ tt, lit≤ tt)

abbrev negations : ℕ → Formula
negations zero = p_letter
negations (suc n) = negation (negations n)

negations_text : (n : ℕ) → Text (negations n) (tildes_p n)
negations_text zero = p_text
negations_text (suc n) = Text.negated (negations_text n)

pub examples : Examples
examples = record {
  implication = answers_at 28 (codes "(p>#)") (negation p_letter) 27 (record { short = lit≤ tt; text = Text.joined p_text Text.falsum; shallow = lit≤ tt }) (lit≤ tt) (lit< tt) refl;
  negated = answers_at 28 (codes "~p") (negation p_letter) 27 (record { short = lit≤ tt; text = Text.negated p_text; shallow = lit≤ tt }) (lit≤ tt) (lit< tt) refl;
  unclosed = answers_wrong (codes "(p&q") 4 (lit≤ tt) (stuck_none (codes "(p&q") 4 (codes "(p&q") (close ∷ []) refl refl refl refl (λ f h x. awaits_none close [] (run_text x [])));
  unbracketed = answers_wrong (codes "p&q") 1 (lit≤ tt) (stuck_none (codes "p&q") 1 (codes "p") [] refl refl refl refl (λ f h x. absurd (omega arith)));
  empty = answers_wrong [] 0 (lit≤ tt) (stuck_none [] 0 [] (formula ∷ []) refl refl refl refl (λ f h x. awaits_none formula [] (run_text x [])));
  deepest = answers_at 59 (tildes_p 32) (negations 32) 58 (record { short = lit≤ tt; text = negations_text 32; shallow = lit≤ tt }) (lit≤ tt) (lit< tt) refl;
  too_deep = λ c h. ((basic, ((lit≤ tt, (negations 33, negations_text 33, lit< tt)), refl)), λ gs a w. too_deep (tildes_p 33) c basic gs (lit≤ tt) (negations 33) (negations_text 33) (lit< tt) a w);
}
