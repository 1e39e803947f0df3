-- Formulas.
use Rattle.std.specs.Prelude.{ℕ, ◌+◌, max}
use Rattle.grammar.specs.declared.connective.Connective.{Connective}
use Rattle.grammar.specs.declared.connective.Connective.TheVariants.{And, Or, Implies}

-- a letter is named by its byte
pub data Formula : Type 0 where
  falsum : Formula
  letter : ℕ → Formula
  joined : Connective → Formula → Formula → Formula

abbrev pub conjunction : Formula → Formula → Formula
conjunction f g = Formula.joined And f g

abbrev pub disjunction : Formula → Formula → Formula
disjunction f g = Formula.joined Or f g

abbrev pub implication : Formula → Formula → Formula
implication f g = Formula.joined Implies f g

abbrev pub negation : Formula → Formula
negation f = Formula.joined Implies f Formula.falsum

abbrev pub nesting : Formula → ℕ
nesting falsum = 0
nesting (letter c) = 0
nesting (joined k f g) = max (nesting f) (nesting g) + 1

-- how many joined formulas it is made of, itself included, each as often as it stands there
abbrev pub joins : Formula → ℕ
joins falsum = 0
joins (letter c) = 0
joins (joined k f g) = joins f + joins g + 1
