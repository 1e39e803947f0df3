use Rattle.std.proofs.Common.{◌≡◌, ℕ, ◌<◌, ◌≤◌, length, get_or}
use Rattle.ledger.specs.Recorded.{no_line}
use Rattle.derivations.proofs.sealed.Sealed.premise_places.Given as goal

abbrev pub invariant-loop-place : goal.invariant-loop-place
invariant-loop-place l = record {
  long : length l.places ≡ 32;
  filled : (k : ℕ) → k < l.place → get_or l.places k 0 ≡ (get_or l.premises k no_line).formula;
  spare : (k : ℕ) → l.place ≤ k → get_or l.places k 0 ≡ 0;
}
