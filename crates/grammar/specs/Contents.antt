-- What a store holds: a list of formulas, each at its place.
use Rattle.std.specs.Prelude.{◌≡◌, ℕ, zero, suc, ◌+◌, ◌<◌, ◌≤◌, Bool, true, false, cond, ◌&&◌, ◌||◌, List, [], ◌∷◌, ◌++◌, length, take, ◌==◌, nat_le, slice_index_or}
use Rattle.grammar.specs.Limits.{most_bytes, most_nesting, least_records}
use Rattle.grammar.specs.Formula.{Formula, nesting}
use Rattle.grammar.specs.Formula.Formula.{falsum, letter, joined}
use Rattle.grammar.specs.WrittenText.{text}
use Rattle.grammar.specs.declared.connective.Connective.{Connective}
use Rattle.grammar.specs.declared.connective.Connective.TheVariants.{And, Or, Implies}

abbrev pub formula_at : List Formula → ℕ → Formula
formula_at fs p = slice_index_or fs p falsum

-- n letters from the byte c on
abbrev pub letters : ℕ → ℕ → List Formula
letters c zero = []
letters c (suc n) = letter c ∷ letters (c + 1) n

-- what a fresh store holds: # and a to z
abbrev pub basic : List Formula
basic = falsum ∷ letters 97 26

-- whether two connectives, and two formulas, are the same: tests, since a store's invariant is made of tests
abbrev pub same_connective : Connective → Connective → Bool
same_connective And And = true
same_connective And Or = false
same_connective And Implies = false
same_connective Or And = false
same_connective Or Or = true
same_connective Or Implies = false
same_connective Implies And = false
same_connective Implies Or = false
same_connective Implies Implies = true

abbrev pub same : Formula → Formula → Bool
same falsum falsum = true
same falsum (letter d) = false
same falsum (joined k f g) = false
same (letter c) falsum = false
same (letter c) (letter d) = c == d
same (letter c) (joined k f g) = false
same (joined k f g) falsum = false
same (joined k f g) (letter d) = false
same (joined k f g) (joined k' f' g') = same_connective k k' && same f f' && same g g'

abbrev pub holds : List Formula → Formula → Bool
holds [] f = false
holds (g ∷ fs) f = same g f || holds fs f

-- a formula is added behind the others, unless it is there
abbrev pub added : List Formula → Formula → List Formula
added fs f = cond (holds fs f) fs (fs ++ f ∷ [])

-- what is held once a formula is entered: missing parts, the first part's before the second's, and then itself
abbrev pub entered : List Formula → Formula → List Formula
entered fs falsum = fs
entered fs (letter c) = fs
entered fs (joined k f g) = added (entered (entered fs f) g) (joined k f g)

-- its letters are a to z
abbrev pub lettered : Formula → Bool
lettered falsum = true
lettered (letter c) = nat_le 97 c && nat_le c 122
lettered (joined k f g) = lettered f && lettered g

-- a formula that can be read: its written text is short enough, and it nests no deeper than is allowed
abbrev pub Fitting : Formula → Type 0
Fitting f = (nesting f ≤ most_nesting) × (length (text f) ≤ most_bytes) × (lettered f ≡ true)

-- a list of formulas that begins with # and the letters
abbrev pub Base : List Formula → Type 0
Base fs = (least_records ≤ length fs) × ((i : ℕ) → i < least_records → same (formula_at fs i) (formula_at basic i) ≡ true)

-- no formula stands at two places
abbrev pub Once : List Formula → Type 0
Once fs = (i : ℕ) → i < length fs → holds (take i fs) (formula_at fs i) ≡ false

abbrev pub AllFitting : List Formula → Type 0
AllFitting fs = (i : ℕ) → i < length fs → Fitting (formula_at fs i)
