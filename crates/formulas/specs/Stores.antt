-- What a store holds.
use Rattle.std.specs.Prelude.{◌≡◌, ℕ, ◌<◌, ◌≤◌, min, ◌⊎◌, List, length, take, vec_items, slice_index_or}
use Rattle.grammar.specs.Limits.{most_records}
use Rattle.grammar.specs.Formula.{Formula}
use Rattle.grammar.specs.Records.{formulas}
use Rattle.grammar.specs.declared.node.Node.{Node}
use Rattle.grammar.specs.declared.node.Node.TheVariants.{Falsum}
use Rattle.formulas.specs.declared.store.Store.{Store}

-- all records that the caller handed over
abbrev pub records : Store → List Node
records s = vec_items s.nodes

-- the formulas of a store, each at its place
abbrev pub contents : Store → List Formula
contents s = formulas (take s.used (records s))

abbrev pub count : Store → ℕ
count s = length (contents s)

-- how many records may be used
abbrev pub capacity : Store → ℕ
capacity s = min (length (records s)) most_records

-- the store has as many records as before, and all but the newly used ones are as they were
pub record OthersStay (before after : Store) : Type 0 where
  pub long : length (records after) ≡ length (records before)
  pub longer : count before ≤ count after
  pub same : (k : ℕ) → (k < count before) ⊎ (count after ≤ k) → slice_index_or (records after) k Falsum ≡ slice_index_or (records before) k Falsum
