-- Examples of reading by a fresh store.
use Rattle.std.specs.Prelude.{◌≡◌, ℕ, ◌≤◌, List, [], ◌++◌, replicate, Ok, Err, codes, Result}
use Rattle.grammar.specs.Formula.{Formula}
use Rattle.grammar.specs.Contents.{basic}
use Rattle.grammar.specs.Reading.{Read}
use Rattle.grammar.specs.declared.refusal.Refusal.{Refusal}
use Rattle.grammar.specs.declared.refusal.Refusal.TheVariants.{NotFormula, DeepFormula}

-- a fresh store of at least so many records answers a text so, and in no other way
abbrev pub Answers : ℕ → List ℕ → Result ℕ Refusal → Type 0
Answers least s answer =
    (capacity : ℕ) → least ≤ capacity → ((gs : List Formula) × Read s capacity basic gs answer) × ((gs : List Formula) (a : Result ℕ Refusal) → Read s capacity basic gs a → a ≡ answer)

-- p after n signs ~
abbrev pub tildes_p : ℕ → List ℕ
tildes_p n = replicate n 126 ++ codes "p"

pub record Examples : Type 0 where
  pub implication : Answers 28 (codes "(p>#)") (Ok 27)
  pub negated : Answers 28 (codes "~p") (Ok 27)
  pub unclosed : Answers 27 (codes "(p&q") (Err (NotFormula 4))
  pub unbracketed : Answers 27 (codes "p&q") (Err (NotFormula 1))
  pub empty : Answers 27 [] (Err (NotFormula 0))
  pub deepest : Answers 59 (tildes_p 32) (Ok 58)
  pub too_deep : Answers 27 (tildes_p 33) (Err DeepFormula)
