use Rattle.heyting.proofs.Meets.{meets_are_greatest_lem}
use Rattle.heyting.proofs.theorems.meets_are_greatest.Goals as goal

pub returns : goal.returns
returns c = meets_are_greatest_lem
