-- How the text of a stored formula is made of those of its parts, which stand below.
use Rattle.std.specs.Prelude.{◌≡◌, ℕ, ◌<◌, List, [], ◌∷◌, ◌++◌}
use Rattle.grammar.specs.Symbols.{tilde, opening, closing}
use Rattle.grammar.specs.Writing.{text_at}
use Rattle.formulas.specs.Stores.{contents}
use Rattle.formulas.specs.declared.store.stored.Stored.{Stored}
use Rattle.formulas.specs.declared.store.write.Spelling.{Spelling}
use Rattle.formulas.specs.declared.store.write.Spelling.TheVariants.{Atom, Negation, Joined}

abbrev pub text_of : Stored → List ℕ
text_of s = text_at (contents s.store.now) s.place

abbrev pub SpelledBy : Stored → Spelling → Type 0
SpelledBy s (Atom byte) = text_of s ≡ byte ∷ []
SpelledBy s (Negation part) = (part.place < s.place) × (text_of s ≡ tilde ∷ text_of part)
SpelledBy s (Joined byte first second) =
    (first.place < s.place) × (second.place < s.place) × (text_of s ≡ opening ∷ text_of first ++ (byte ∷ text_of second ++ (closing ∷ [])))
