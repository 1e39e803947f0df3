-- The number and the place by which a refusal is told.
use Rattle.std.specs.Prelude.{ℕ}
use Rattle.fitch.specs.Refusals.{number_of as number_of_concluding, place_of as place_of_concluding}
use Rattle.verdicts.specs.Refusals.{number_of as number_of_weighing, place_of as place_of_weighing}
use Rattle.judgements.specs.declared.refusal.Unjudged.{Unjudged}
use Rattle.judgements.specs.declared.refusal.Unjudged.TheVariants.{NotConcluded, NotWeighed}

abbrev pub number_of : Unjudged → ℕ
number_of (NotConcluded refusal) = number_of_concluding refusal
number_of (NotWeighed refusal) = number_of_weighing refusal

abbrev pub place_of : Unjudged → ℕ
place_of (NotConcluded refusal) = place_of_concluding refusal
place_of (NotWeighed refusal) = place_of_weighing refusal
