-- How the text at a place is spelled from those of its parts.
use Rattle.std.proofs.Common.{◌≡◌, ℕ, ◌+◌, ◌<◌, ltb, List, [], ◌∷◌, ◌++◌, length, sym, refl, ap, ◌∙◌, arith, length-append}
use Rattle.std.proofs.lemmas.Bool.{and_parts, ltb-true}
use Rattle.grammar.specs.Formula.{Formula}
use Rattle.grammar.specs.Formula.Formula.{falsum, letter, joined}
use Rattle.grammar.specs.Texts.{bracketed}
use Rattle.grammar.specs.WrittenText.{text, join_text}
use Rattle.grammar.specs.Contents.{formula_at, Base, Once}
use Rattle.grammar.specs.Records.{MadeOf}
use Rattle.grammar.specs.Writing.{text_at}
use Rattle.grammar.specs.declared.connective.Connective.{Connective}
use Rattle.grammar.specs.declared.connective.Connective.TheVariants.{And, Or, Implies}
use Rattle.grammar.specs.declared.node.Node.TheVariants.{Joined}
use Rattle.grammar.proofs.Entries.{falsum_at}
use Rattle.grammar.proofs.Sameness.{one_place}

join_bracketed : (k : Connective) (g : Formula) (s t : List ℕ) → (k ≡ Implies → g ≡ falsum → ⊥) → join_text k g s t ≡ bracketed k s t
join_bracketed And g s t h = refl
join_bracketed Or g s t h = refl
join_bracketed Implies falsum s t h = absurd (h refl refl)
join_bracketed Implies (letter c) s t h = refl
join_bracketed Implies (joined k f g) s t h = refl

-- the formula at a place is made of formulas below
module _ (fs : List Formula) (base : Base fs) (once : Once fs) (p : ℕ) where
  module _ (k : Connective) (i j : ℕ) (m : MadeOf fs p (Joined k i j)) where
    pub parts_lower : (i < p) × (j < p)
    parts_lower = let b = and_parts (ltb i p) (ltb j p) m.below in (ltb-true i p b.0, ltb-true j p b.1)

    pub spelled_negation : k ≡ Implies → j ≡ 0 → text_at fs p ≡ 126 ∷ text_at fs i
    spelled_negation ek ej = ap text m.formula ∙ (λ t. join_text (ek t) ((ap (formula_at fs) ej ∙ falsum_at fs base) t) (text_at fs i) (text_at fs j))

    pub spelled_joined : (k ≡ Implies → j ≡ 0 → ⊥) → text_at fs p ≡ bracketed k (text_at fs i) (text_at fs j)
    spelled_joined other =
        ap text m.formula
        ∙ join_bracketed k _ (text_at fs i) (text_at fs j)
        (λ ek ef. other ek (one_place fs once j 0 (omega (arith, parts_lower, m.stored)) (omega (arith, base.0)) (ef ∙ sym (falsum_at fs base))))

pub spelled_long : (b : ℕ) (s t : List ℕ) → length (40 ∷ s ++ (b ∷ t ++ (41 ∷ []))) ≡ length s + length t + 3
spelled_long b s t = omega (arith, length-append s (b ∷ t ++ (41 ∷ [])), length-append t (41 ∷ []))
