-- No formula's text is the front of another's, and a text is of one formula.
use Rattle.std.proofs.Common.{◌≡◌, ℕ, List, [], ◌∷◌, ◌++◌, sym, refl, ap, ◌∙◌, append_assoc, append-nil, arith}
use Rattle.grammar.specs.Symbols.{sign}
use Rattle.grammar.specs.Formula.{Formula}
use Rattle.grammar.specs.Texts.{Text, Unambiguous, bracketed}
use Rattle.grammar.specs.declared.connective.Connective.{Connective}
use Rattle.grammar.specs.declared.connective.Connective.TheVariants.{And, Or, Implies}

abbrev pub head : List ℕ → ℕ
head [] = 0
head (b ∷ bs) = b

abbrev pub tail : List ℕ → List ℕ
tail [] = []
tail (b ∷ bs) = bs

pub bracketed_append : (k : Connective) (s t u : List ℕ) → bracketed k s t ++ u ≡ 40 ∷ s ++ (sign k ∷ t ++ (41 ∷ u))
bracketed_append k s t u = simp append_assoc

sign_one : (j k : Connective) → sign j ≡ sign k → j ≡ k
sign_one And And e = refl
sign_one And Or e = absurd (omega arith)
sign_one And Implies e = absurd (omega arith)
sign_one Or And e = absurd (omega arith)
sign_one Or Or e = refl
sign_one Or Implies e = absurd (omega arith)
sign_one Implies And e = absurd (omega arith)
sign_one Implies Or e = absurd (omega arith)
sign_one Implies Implies e = refl

pub record Same (f g : Formula) (s t u v : List ℕ) : Type 0 where
  pub formula : f ≡ g
  pub text : s ≡ t
  pub rest : u ≡ v

pub unique : {f g : Formula} {s t : List ℕ} (u v : List ℕ) → Text f s → Text g t → s ++ u ≡ t ++ v → Same f g s t u v
unique u v Text.falsum Text.falsum e = record { formula = refl; text = refl; rest = ap tail e }
unique u v Text.falsum (Text.letter h) e = absurd (omega (arith, ap head e))
unique u v Text.falsum (Text.joined a b) e = absurd (omega (arith, ap head e))
unique u v Text.falsum (Text.negated a) e = absurd (omega (arith, ap head e))
unique u v (Text.letter h) Text.falsum e = absurd (omega (arith, ap head e))
unique u v (Text.letter h) (Text.letter h') e = record { formula = ap Formula.letter (ap head e); text = ap (λ c. c ∷ []) (ap head e); rest = ap tail e }
unique u v (Text.letter h) (Text.joined a b) e = absurd (omega (arith, ap head e))
unique u v (Text.letter h) (Text.negated a) e = absurd (omega (arith, ap head e))
unique u v (Text.joined x y) Text.falsum e = absurd (omega (arith, ap head e))
unique u v (Text.joined x y) (Text.letter h) e = absurd (omega (arith, ap head e))
unique u v (Text.joined {k = k} {s = s} {t = t} x y) (Text.joined {k = k'} {s = s'} {t = t'} x' y') e =
    let e' = ap tail (sym (bracketed_append k s t u) ∙ (e ∙ bracketed_append k' s' t' v)) in
    let first = unique (sign k ∷ t ++ (41 ∷ u)) (sign k' ∷ t' ++ (41 ∷ v)) x x' e' in
    let second = unique (41 ∷ u) (41 ∷ v) y y' (ap tail first.rest) in
    let same = sign_one k k' (ap head first.rest) in
    record {
      formula = λ i. Formula.joined (same i) (first.formula i) (second.formula i);
      text = λ i. bracketed (same i) (first.text i) (second.text i);
      rest = ap tail second.rest;
    }
unique u v (Text.joined x y) (Text.negated a) e = absurd (omega (arith, ap head e))
unique u v (Text.negated x) Text.falsum e = absurd (omega (arith, ap head e))
unique u v (Text.negated x) (Text.letter h) e = absurd (omega (arith, ap head e))
unique u v (Text.negated x) (Text.joined a b) e = absurd (omega (arith, ap head e))
unique u v (Text.negated x) (Text.negated y) e =
    let one = unique u v x y (ap tail e) in
    record { formula = ap (λ f. Formula.joined Implies f Formula.falsum) one.formula; text = ap (λ s. 126 ∷ s) one.text; rest = one.rest }

pub unambiguous : Unambiguous
unambiguous = record {
  one_formula = λ x y. (unique [] [] x y refl).formula;
  no_beginning = λ {t = t} rest x y e. (unique rest [] x y (e ∙ sym (append-nil t))).text;
}
