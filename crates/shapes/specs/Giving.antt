-- What a rule gives, by places.
use Rattle.std.specs.Prelude.{ℕ, ◌<◌, List, map, length}
use Rattle.std.specs.List.{AllByRecursion}
use Rattle.grammar.specs.Contents.{formula_at}
use Rattle.grammar.specs.Formula.{Formula}
use Rattle.fitch.specs.Rules.{line, box, Fits}
use Rattle.fitch.specs.Rules.{Cited as Meant}
use Rattle.fitch.specs.declared.rule.Rule.{Rule}
use Rattle.shapes.specs.declared.cited.Cited.{Cited}
use Rattle.shapes.specs.declared.cited.Cited.TheVariants.{Line, Box}

-- what places stand for
abbrev pub meaning : List Formula → Cited → Meant
meaning fs (Line a) = line (formula_at fs a)
meaning fs (Box a e) = box (formula_at fs a) (formula_at fs e)

abbrev pub Placed : List Formula → Cited → Type 0
Placed fs (Line a) = a < length fs
Placed fs (Box a e) = (a < length fs) × (e < length fs)

-- all places are stored, and the rule gives the formula from what is cited
pub record Gives (fs : List Formula) (place : ℕ) (r : Rule) (cs : List Cited) : Type 0 where
  pub stored : place < length fs
  pub cited : AllByRecursion (Placed fs) cs
  pub fits : Fits r (formula_at fs place) (map (meaning fs) cs)
