-- What the code reads of fields.
use Rattle.std.specs.Prelude.{ℕ, List, Option}
use Rattle.std.specs.Option.{option_map}
use denote.Ref.{Bor}
use Rattle.entries.specs.Entries.{Said, said_by}
use Rattle.entries.specs.declared.entry.Entry.{Entry}
use Rattle.records.specs.Cursors.{fields_to_come}
use Rattle.records.specs.declared.fields.Fields.{Fields}
use Rattle.entries.specs.declared.kind.Kind.{Kind}
use Rattle.entries.specs.declared.turn.Turn.{Turn}

abbrev pub seen : Bor (List ℕ) → List ℕ
seen s = s.now

abbrev pub said_here : Entry (Bor (List ℕ)) → Said (List ℕ)
said_here e = said_by seen e

abbrev pub said_next : Entry (Bor (List ℕ)) × Turn → Said (List ℕ) × Turn
said_next r = (said_here r.0, r.1)

abbrev pub headed : Option (Kind × Fields) → Option (Kind × List (List ℕ))
headed h = option_map (λ p. (p.0, fields_to_come p.1)) h
