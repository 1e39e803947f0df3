-- An input whose length and records are counted.
use Rattle.std.proofs.Common.{ℕ, ◌<◌, ◌≤◌, List, [], length, Some, Option, Ok, Err, refl, arith, suc, ap, ◌∙◌, None, ◌≡◌}
use Rattle.grammar.specs.Formula.{Formula}
use Rattle.records.specs.Limits.{most_input}
use Rattle.records.specs.Pieces.{Piece, records}
use Rattle.answers.specs.declared.fault.Fault.{Fault}
use Rattle.answers.specs.declared.fault.Fault.TheVariants.{TooLong}
use Rattle.answers.specs.declared.unanswered.Unanswered.TheVariants.{Faulty}
use Rattle.entries.specs.declared.entry.Entry.{Entry}
use Rattle.entries.specs.declared.turn.Format.{Format}
use Rattle.entries.specs.declared.turn.Turn.{Turn}
use Rattle.readings.specs.Answers.{RecordsRead, InputRead}
use Rattle.readings.specs.Settled.{SameReading}
use Rattle.readings.proofs.Settling.{one_reading}
use Rattle.entries.specs.Entries.{Said}
use Rattle.grammar.specs.Contents.{Once}
use Rattle.readings.specs.Reading.{Reads, InputSays}

-- where there is no fault, each record says something
all_said : {cap : ℕ} {format : Format} {turn : Turn} {n : ℕ} {ps : List Piece} {fs gs : List Formula} {xs : List (Said ℕ)} → Reads cap format turn n ps fs gs xs None → length xs ≡ length ps
all_said (Reads.done full) = refl
all_said (Reads.next gs x later here rest) = ap suc (all_said rest)

module _ (cap : ℕ) (format : Format) (s : List ℕ) (fs gs : List Formula) (before after : List (Entry ℕ)) (once : Once fs) where
  only : {xs : List (Said ℕ)} {e : Option Fault} → InputSays cap format s fs gs xs e → (hs : List Formula) (ys : List (Said ℕ)) (d : Option Fault) → InputSays cap format s fs hs ys d → SameReading gs hs xs ys e d
  only {xs} {e} says hs ys d other = one_reading cap format s fs gs hs xs ys e d once says other

  pub said : (n : ℕ) → length s ≤ most_input → length (records s) ≤ length before → RecordsRead cap format s fs gs before after (Ok n) → InputRead cap format s fs gs before after (Ok n)
  said n short room read = (read.0, record { says = InputSays.read short read.1; only = only (InputSays.read short read.1); room = λ p. room; kept = read.2 }, read.3, read.3 ∙ all_said read.1)

  pub faulty :
      (fault : Fault) → length s ≤ most_input → length (records s) ≤ length before → RecordsRead cap format s fs gs before after (Err fault)
      → InputRead cap format s fs gs before after (Err (Faulty fault))
  faulty fault short room read = (read.0, record { says = InputSays.read short read.1; only = only (InputSays.read short read.1); room = λ p. room; kept = read.2 })

pub too_long : (cap : ℕ) (format : Format) (s : List ℕ) (fs : List Formula) (before : List (Entry ℕ)) → Once fs → most_input < length s → InputRead cap format s fs fs before before (Err (Faulty TooLong))
too_long cap format s fs before once long = (
  [],
  record {
    says = InputSays.too_long long;
    only = λ hs ys d other. one_reading cap format s fs fs hs [] ys (Some TooLong) d once (InputSays.too_long long) other;
    room = λ short. absurd (omega (arith, short, long));
    kept = record { long = refl; said = refl; rest = refl };
  },
)
