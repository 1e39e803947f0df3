use Rattle.heyting.proofs.Values.{value_in}
use Rattle.heyting.proofs.theorems.values_are_members.Goals as goal

pub returns : goal.returns
returns c = value_in
