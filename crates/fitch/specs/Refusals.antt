-- The number and the place by which a refusal is told.
use Rattle.std.specs.Prelude.{ℕ}
use Rattle.fitch.specs.declared.refusal.Refusal.{Refusal}
use Rattle.fitch.specs.declared.refusal.Refusal.TheVariants.{NotStored, ManyPremises, NoRecord, ManyBoxes, WrongNumber, NoSuchLine, NotReachable, NotOfMode, DoesNotFit, NoOpenBox, BoxOpen, NoTopLine}

abbrev pub number_of : Refusal → ℕ
number_of NotStored = 7
number_of ManyPremises = 8
number_of NoRecord = 9
number_of ManyBoxes = 10
number_of WrongNumber = 11
number_of (NoSuchLine citation) = 12
number_of (NotReachable citation) = 13
number_of NotOfMode = 14
number_of DoesNotFit = 15
number_of NoOpenBox = 16
number_of BoxOpen = 17
number_of NoTopLine = 18

-- the first bad citation, from 1; every other refusal has 0
abbrev pub place_of : Refusal → ℕ
place_of NotStored = 0
place_of ManyPremises = 0
place_of NoRecord = 0
place_of ManyBoxes = 0
place_of WrongNumber = 0
place_of (NoSuchLine citation) = citation
place_of (NotReachable citation) = citation
place_of NotOfMode = 0
place_of DoesNotFit = 0
place_of NoOpenBox = 0
place_of BoxOpen = 0
place_of NoTopLine = 0
