-- What is read of a page holds of the store and the line records that it is of.
use Rattle.std.proofs.Common.{◌≡◌, ℕ, ◌<◌, ◌≤◌, List, Some, length, take, sym, subst}
use native.Mathlib.Decide.{dec_lt}
use Rattle.formulas.specs.Stores.{contents}
use Rattle.formulas.specs.declared.store.Store.{Store}
use Rattle.grammar.specs.Formula.{Formula}
use Rattle.fitch.specs.History.{History}
use Rattle.ledger.specs.Recorded.{Recorded}
use Rattle.ledger.specs.declared.line.Line.{Line}
use Rattle.ledger.specs.Telling.{record_of}
use Rattle.ledger.proofs.Recording.{recorded_whole, settled, stored_at, line_some, line_none, box_some, box_own, box_around, box_ends, unresolved}
use Rattle.pages.specs.Of.{PageOf}
use Rattle.pages.specs.Pages.{formulas_on, Has}
use Rattle.pages.specs.declared.page.Page.{Page}

module _ {store : Store} {es : List Line} {n : ℕ} {p : Page} (o : PageOf store es n p) where
  pub on_page : {h : History} → n ≤ length es → Recorded (contents store) es n h → Has p h
  on_page {h} fits g =
      subst (λ xs. Recorded (formulas_on p) xs (length xs) h) (sym o.lines_are)
      (subst (λ s. Recorded (contents s) (take n es) (length (take n es)) h) (sym o.store_is) (recorded_whole fits g))

  -- what is said over the formulas
  pub off_page : (P : List Formula → Type 0) → P (formulas_on p) → P (contents store)
  off_page P x = subst (λ s. P (contents s)) o.store_is x

-- what a record names is stored
pub stored_on : (p : Page) (i : ℕ) (e : Line) → record_of p.lines.now i ≡ Some e → e.formula < length (formulas_on p)
stored_on p i e is = settled (dec_lt _ _) p.recorded (λ r. stored_at r.1 i e is)

-- for a cited line, and for a cited box
pub ruleset line_steps = (line_some, line_none, unresolved, stored_on)

pub ruleset box_steps = (box_some, box_own, box_around, box_ends, unresolved, stored_on)
