-- What writing the line of an answer answers.
use Rattle.std.specs.Prelude.{◌≡◌, ℕ, ◌<◌, ◌≤◌, List, length, Ok, Err, Result}
use Rattle.grammar.specs.Writing.{put}
use Rattle.grammar.specs.declared.refusal.Refusal.{Refusal}
use Rattle.grammar.specs.declared.refusal.Refusal.TheVariants.{FewRecords, LongText, NotFormula, DeepFormula, RecordsWanting, ShortBuffer, NotStored}

-- why a line is not written into a buffer: some place that it tells of holds no formula, or else the line is too long
abbrev pub NotPrinted : Type 0 → List ℕ → List ℕ → Refusal → Type 0
NotPrinted Stored line buffer FewRecords = ⊥
NotPrinted Stored line buffer LongText = ⊥
NotPrinted Stored line buffer (NotFormula i) = ⊥
NotPrinted Stored line buffer DeepFormula = ⊥
NotPrinted Stored line buffer RecordsWanting = ⊥
NotPrinted Stored line buffer ShortBuffer = Stored × (length buffer < length line)
NotPrinted Stored line buffer NotStored = Stored → ⊥

-- the buffer as it was and as it is, and the answer: the line's length, or a refusal that changes nothing
abbrev pub Printed : Type 0 → List ℕ → List ℕ → List ℕ → Result ℕ Refusal → Type 0
Printed Stored line before after (Ok n) = Stored × (n ≡ length line) × (n ≤ length before) × (after ≡ put before 0 line)
Printed Stored line before after (Err refusal) = NotPrinted Stored line before refusal × (after ≡ before)
