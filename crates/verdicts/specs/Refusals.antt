-- The number and the place by which a refusal is told.
use Rattle.std.specs.Prelude.{ℕ}
use Rattle.heyting.specs.Refusals.{number_of as number_of_evaluating, place_of as place_of_evaluating}
use Rattle.verdicts.specs.declared.refusal.Unweighable.{Unweighable}
use Rattle.verdicts.specs.declared.refusal.Unweighable.TheVariants.{NotStored, NotEvaluated}

abbrev pub number_of : Unweighable → ℕ
number_of NotStored = 7
number_of (NotEvaluated refusal) = number_of_evaluating refusal

-- the first letter whose element is no member, from 1; every other refusal has 0
abbrev pub place_of : Unweighable → ℕ
place_of NotStored = 0
place_of (NotEvaluated refusal) = place_of_evaluating refusal
