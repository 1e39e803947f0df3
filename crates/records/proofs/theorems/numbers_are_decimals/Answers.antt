use Rattle.records.proofs.Decimals.{numbers_are_decimals}
use Rattle.records.proofs.theorems.numbers_are_decimals.Goals as goal

pub returns : goal.returns
returns c = numbers_are_decimals
