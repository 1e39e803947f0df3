-- What reading a text into a store answers, and what it leaves.
use Rattle.std.specs.Prelude.{◌≡◌, ℕ, List, IfErr, Result}
use Rattle.grammar.specs.Reading.{Read}
use Rattle.grammar.specs.declared.refusal.Refusal.{Refusal}
use Rattle.formulas.specs.Stores.{contents, capacity, OthersStay}
use Rattle.formulas.specs.declared.store.Store.{Store}

-- the answer is the one that reading the text has; the records that are not newly used are as they were, and after a refusal the whole store is
pub record Reads (text : List ℕ) (before after : Store) (answer : Result ℕ Refusal) : Type 0 where
  pub read : Read text (capacity before) (contents before) (contents after) answer
  pub stay : OthersStay before after
  pub refused : IfErr answer (λ _. after ≡ before)
