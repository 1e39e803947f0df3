-- The sides of a joined formula, and the rules that differ in the side alone.
use Rattle.std.specs.Prelude.{ℕ}
use Rattle.fitch.specs.declared.rule.Rule.{Rule}
use Rattle.fitch.specs.declared.rule.Rule.TheVariants.{AndLeft, AndRight, OrLeft, OrRight}
use Rattle.shapes.specs.declared.side.Side.{Side}
use Rattle.shapes.specs.declared.side.Side.TheVariants.{Left, Right}

abbrev pub part_on : Side → ℕ × ℕ → ℕ
part_on Left (first, second) = first
part_on Right (first, second) = second

-- the rule that gives the conjunct on a side
abbrev pub taking : Side → Rule
taking Left = AndLeft
taking Right = AndRight

-- the rule that gives a disjunction from the disjunct on a side
abbrev pub widening : Side → Rule
widening Left = OrLeft
widening Right = OrRight
