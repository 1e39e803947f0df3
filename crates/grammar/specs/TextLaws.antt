-- What every text of a formula has in common.
use Rattle.std.specs.Prelude.{◌≡◌, ℕ, ◌≤◌, true, List, length}
use Rattle.grammar.specs.Formula.{Formula, joins}
use Rattle.grammar.specs.Symbols.{signs}
use Rattle.grammar.specs.Texts.{Text}
use Rattle.grammar.specs.WrittenText.{text}
use Rattle.grammar.specs.Contents.{lettered}

pub record TextLaws : Type 0 where
  -- the written text is a text of the formula, if its letters are a to z
  pub written : (f : Formula) → lettered f ≡ true → Text f (text f)
  -- and none is shorter
  pub shortest : {f : Formula} {s : List ℕ} → Text f s → length (text f) ≤ length s
  -- a text has as many signs as the formula has connectives
  pub signs_are : {f : Formula} {s : List ℕ} → Text f s → signs s ≡ joins f
