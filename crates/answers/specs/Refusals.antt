-- The number and the place by which it is told why there is no answer.
use Rattle.std.specs.Prelude.{ℕ}
use Rattle.answers.specs.Faults.{number_of as number_of_fault, place_of as place_of_fault}
use Rattle.answers.specs.declared.unanswered.Unanswered.{Unanswered}
use Rattle.answers.specs.declared.unanswered.Unanswered.TheVariants.{ShortEntries, NotStored, ShortValues, Faulty}

abbrev pub number_of : Unanswered → ℕ
number_of ShortEntries = 6
number_of NotStored = 7
number_of ShortValues = 25
number_of (Faulty fault) = number_of_fault fault

-- the place of a fault; every other reason has 0
abbrev pub place_of : Unanswered → ℕ
place_of ShortEntries = 0
place_of NotStored = 0
place_of ShortValues = 0
place_of (Faulty fault) = place_of_fault fault
