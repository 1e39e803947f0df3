-- The number and the place by which a refusal is told.
use Rattle.std.specs.Prelude.{ℕ}
use Rattle.degrees.specs.declared.chain.make.OutOfRange.{OutOfRange}

abbrev pub number_of : OutOfRange → ℕ
number_of refusal = 19

abbrev pub place_of : OutOfRange → ℕ
place_of refusal = 0
