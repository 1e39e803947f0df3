-- The page of a store and the first line records.
use Rattle.std.specs.Prelude.{◌≡◌, ℕ, List, take}
use Rattle.formulas.specs.declared.store.Store.{Store}
use Rattle.ledger.specs.declared.line.Line.{Line}
use Rattle.pages.specs.declared.page.Page.{Page}

pub record PageOf (store : Store) (lines : List Line) (count : ℕ) (p : Page) : Type 0 where
  pub store_is : p.store.now ≡ store
  pub lines_are : p.lines.now ≡ take count lines
