-- What making a store answers.
use Rattle.std.specs.Prelude.{◌≡◌, ◌<◌, ◌≤◌, min, length, drop, vec_items, Vec}
use Rattle.std.specs.declared.alloc.Global.{Global}
use Rattle.grammar.specs.Contents.{basic}
use Rattle.grammar.specs.Limits.{least_records, most_records}
use Rattle.grammar.specs.declared.node.Node.{Node}
use Rattle.grammar.specs.declared.refusal.Refusal.TheVariants.{FewRecords}
use Rattle.formulas.specs.Stores.{records, contents, capacity}
use Rattle.formulas.specs.declared.store.Store.{Store}
use Rattle.formulas.specs.declared.store.make.NotMade.{NotMade}

-- a fresh store over given records: # and the letters are written to the first 27, and the others are as they were
pub record Made (given : Vec Node Global) (s : Store) : Type 0 where
  pub enough : least_records ≤ length (vec_items given)
  pub holds : contents s ≡ basic
  pub sized : capacity s ≡ min (length (vec_items given)) most_records
  pub long : length (records s) ≡ length (vec_items given)
  pub spare : drop least_records (records s) ≡ drop least_records (vec_items given)

-- too few records, which come back as they were given
pub record NotEnough (given : Vec Node Global) (e : NotMade) : Type 0 where
  pub few : length (vec_items given) < least_records
  pub refusal : e.refusal ≡ FewRecords
  pub back : e.records ≡ given
