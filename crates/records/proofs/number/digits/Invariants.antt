use Rattle.std.proofs.Common.{◌≡◌, ◌<◌, ◌^◌, drop}
use Rattle.records.specs.Numbers.{digits}
use Rattle.records.proofs.number.digits.Given as goal

abbrev pub invariant-loop-byte : goal.invariant-loop-byte
invariant-loop-byte l = record {
  bound : l.number < 10 ^ l.byte-index;
  rest : digits l.number (drop l.byte-index l.field) ≡ digits 0 l.field;
}
