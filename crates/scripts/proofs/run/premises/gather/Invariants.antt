use Rattle.std.proofs.Common.{map}
use Rattle.fitch.specs.History.{History}
use Rattle.derivations.specs.Gathered.{sheet_of, Gathered}
use Rattle.derivations.specs.Sheets.{Leaves}
use Rattle.entries.specs.Entries.{stored}
use Rattle.scripts.specs.Runs.{gathering_calls}
use Rattle.scripts.proofs.Running.{SoFar}
use Rattle.scripts.proofs.run.premises.gather.Given as goal

abbrev pub invariant-loop-place : goal.invariant-loop-place
invariant-loop-place l = record {
  leaves : Leaves (sheet_of l.fn.gathering) (sheet_of l.gathering);
  so_far : (h : History) → Gathered l.fn.gathering h
      → (k : History) × SoFar (gathering_calls l.fn.gathering) l.first (map stored l.entries) h l.place k × Gathered l.gathering k;
}
