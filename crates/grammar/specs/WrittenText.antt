-- The text that is written of a formula.
use Rattle.std.specs.Prelude.{ℕ, List, [], ◌∷◌}
use Rattle.grammar.specs.Formula.{Formula}
use Rattle.grammar.specs.Formula.Formula.{falsum, letter, joined}
use Rattle.grammar.specs.Symbols.{hash, tilde}
use Rattle.grammar.specs.Texts.{bracketed}
use Rattle.grammar.specs.declared.connective.Connective.{Connective}
use Rattle.grammar.specs.declared.connective.Connective.TheVariants.{And, Or, Implies}

-- a joined formula's, from its parts': ~ for an implication to #, else in brackets
abbrev pub join_text : Connective → Formula → List ℕ → List ℕ → List ℕ
join_text And g s t = bracketed And s t
join_text Or g s t = bracketed Or s t
join_text Implies falsum s t = tilde ∷ s
join_text Implies (letter c) s t = bracketed Implies s t
join_text Implies (joined k f g) s t = bracketed Implies s t

abbrev pub text : Formula → List ℕ
text falsum = hash ∷ []
text (letter c) = c ∷ []
text (joined k f g) = join_text k g (text f) (text g)
