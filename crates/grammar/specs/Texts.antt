-- The texts of a formula.
use Rattle.std.specs.Prelude.{◌≡◌, ℕ, ◌+◌, ◌<◌, ◌≤◌, List, [], ◌∷◌, ◌++◌, length, take}
use Rattle.grammar.specs.Formula.{Formula, negation}
use Rattle.grammar.specs.Symbols.{hash, tilde, opening, closing, sign, IsLetter}
use Rattle.grammar.specs.declared.connective.Connective.{Connective}

-- two texts joined by a sign, in brackets
abbrev pub bracketed : Connective → List ℕ → List ℕ → List ℕ
bracketed k s t = opening ∷ s ++ (sign k ∷ t ++ (closing ∷ []))

-- s is a text of f
pub data Text : Formula → List ℕ → Type 0 where
  falsum : Text Formula.falsum (hash ∷ [])
  letter : {c : ℕ} → IsLetter c → Text (Formula.letter c) (c ∷ [])
  joined : {k : Connective} {f g : Formula} {s t : List ℕ} → Text f s → Text g t → Text (Formula.joined k f g) (bracketed k s t)
  negated : {f : Formula} {s : List ℕ} → Text f s → Text (negation f) (tilde ∷ s)

-- s begins a formula: it is the front of some formula's text
abbrev pub Begins : List ℕ → Type 0
Begins s = (f : Formula) × (rest : List ℕ) × Text f (s ++ rest)

-- the least i such that the first i + 1 bytes begin no formula, else the length
pub record FirstWrong (s : List ℕ) (i : ℕ) : Type 0 where
  pub within : i ≤ length s
  pub before : (k : ℕ) → k < i → Begins (take (k + 1) s)
  pub wrong : i < length s → Begins (take (i + 1) s) → ⊥

-- s is no formula's text, and i is its first wrong place
pub record NoFormula (s : List ℕ) (i : ℕ) : Type 0 where
  pub none : (f : Formula) → Text f s → ⊥
  pub first : FirstWrong s i

-- a text is the text of one formula, and no text is the beginning of another
pub record Unambiguous : Type 0 where
  pub one_formula : {f g : Formula} {s : List ℕ} → Text f s → Text g s → f ≡ g
  pub no_beginning : {f g : Formula} {s t : List ℕ} (rest : List ℕ) → Text f s → Text g t → s ++ rest ≡ t → s ≡ t
