use Rattle.std.proofs.Common.{map}
use Rattle.fitch.specs.History.{History}
use Rattle.derivations.specs.Derived.{Derived, Leaves}
use Rattle.entries.specs.Entries.{stored}
use Rattle.scripts.specs.Runs.{open_calls}
use Rattle.scripts.proofs.Running.{SoFar}
use Rattle.scripts.proofs.run.acts.act_all.Given as goal

abbrev pub invariant-loop-place : goal.invariant-loop-place
invariant-loop-place l = record {
  leaves : Leaves l.fn.derivation l.derivation;
  so_far : (h : History) → Derived l.fn.derivation h
      → (k : History) × SoFar (open_calls l.fn.derivation) l.first (map stored l.entries) h l.place k × Derived l.derivation k;
}
