-- The histories whose lines a page has.
use Rattle.std.specs.Prelude.{List, length}
use Rattle.formulas.specs.Stores.{contents}
use Rattle.grammar.specs.Formula.{Formula}
use Rattle.fitch.specs.History.{History}
use Rattle.ledger.specs.Recorded.{Recorded}
use Rattle.pages.specs.declared.page.Page.{Page}

abbrev pub formulas_on : Page → List Formula
formulas_on p = contents p.store.now

abbrev pub Has : Page → History → Type 0
Has p h = Recorded (formulas_on p) p.lines.now (length p.lines.now) h
