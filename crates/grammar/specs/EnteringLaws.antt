-- What entering a formula adds, and what it leaves.
use Rattle.std.specs.Prelude.{◌≡◌, ℕ, ◌+◌, ◌<◌, ◌≤◌, List, length}
use Rattle.grammar.specs.Formula.{Formula, joins}
use Rattle.grammar.specs.Formula.Formula.{joined}
use Rattle.grammar.specs.Contents.{formula_at, entered, Once}
use Rattle.grammar.specs.declared.connective.Connective.{Connective}

-- g is f, or a part of it
pub data Part : Formula → Formula → Type 0 where
  whole : {f : Formula} → Part f f
  first : {g f h : Formula} {k : Connective} → Part g f → Part g (joined k f h)
  second : {g f h : Formula} {k : Connective} → Part g h → Part g (joined k f h)

pub record EnteringLaws : Type 0 where
  -- every place keeps its formula
  pub stays : (fs : List Formula) (f : Formula) (p : ℕ) → p < length fs → formula_at (entered fs f) p ≡ formula_at fs p
  -- at the new places stand parts of the formula alone
  pub parts_only : (fs : List Formula) (f : Formula) (p : ℕ) → length fs ≤ p → p < length (entered fs f) → Part (formula_at (entered fs f) p) f
  -- at most one for each connective
  pub few : (fs : List Formula) (f : Formula) → length (entered fs f) ≤ length fs + joins f
  -- and none twice
  pub once : (fs : List Formula) (f : Formula) → Once fs → Once (entered fs f)
