use Rattle.std.proofs.Common.{◌≡◌, ℕ, ◌<◌, ◌≤◌, length, get_or}
use Rattle.heyting.proofs.Closures.{grown}
use Rattle.frames.proofs.frame.Frame.relate.Given as goal

abbrev pub invariant-loop-row : goal.invariant-loop-row
invariant-loop-row l =
    (length l.row-items ≡ 12) × ((k : ℕ) → k < l.row-index → get_or l.row-items k 0 ≡ grown l.self.up l.u l.v k)
    × ((k : ℕ) → l.row-index ≤ k → get_or l.row-items k 0 ≡ get_or l.self.up k 0)
