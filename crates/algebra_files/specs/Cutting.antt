-- What the parts of a file say that are cut out of its entries.
use Rattle.std.specs.Prelude.{ℕ, ◌==◌, Bool, true, false, List, map}
use Rattle.std.specs.Option.{option_map}
use Rattle.entries.specs.Entries.{Said, stored}
use Rattle.entries.specs.declared.entry.Entry.{Entry}
use Rattle.entries.specs.declared.entry.Entry.TheVariants.{Pair, Value}
use Rattle.entries.specs.AlgebraFiles.{Base, File}
use Rattle.algebra_files.specs.Reading.{pairs_in, values_in}
use Rattle.algebra_files.specs.declared.file.Base.{Base as ABase}
use Rattle.algebra_files.specs.declared.file.File.{File as AFile}
use Rattle.algebra_files.specs.declared.file.Values.{Values}
use Rattle.algebra_files.specs.declared.read.Entries.{Entries}

abbrev pub is_pair : Entry ℕ → Bool
is_pair (Pair u v) = true
is_pair _ = false

abbrev pub is_value : Entry ℕ → Bool
is_value (Value a e) = true
is_value _ = false

-- the entry gives an element to a letter, by its byte
abbrev pub gives : ℕ → Entry ℕ → Bool
gives byte (Value a e) = a == byte
gives byte _ = false

-- the element that an entry gives
abbrev pub given_by : Entry ℕ → ℕ
given_by (Value a e) = e
given_by _ = 0

abbrev pub to_come : Entries → List (Said ℕ)
to_come e = map stored e.rest.now

abbrev pub base_of : ABase → Base
base_of b = record { worlds = b.worlds; pairs = pairs_in (map stored b.pairs.now) }

abbrev pub values_of : Values → List (ℕ × ℕ)
values_of v = values_in (map stored v.entries.now)

abbrev pub file_of : AFile → File
file_of f = record { first = base_of f.first; second = option_map base_of f.second; layer = f.layer; values = values_of f.values }
