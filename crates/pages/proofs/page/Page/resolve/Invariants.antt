use Rattle.std.proofs.Common.{◌≡◌, ℕ, ◌<◌, length, get_or}
use Rattle.fitch.specs.Exact.{Reached}
use Rattle.fitch.specs.History.{History}
use Rattle.shapes.specs.Giving.{meaning, Placed}
use Rattle.shapes.specs.declared.cited.Cited.TheVariants.{Line}
use Rattle.pages.specs.Pages.{Has, formulas_on}
use Rattle.pages.proofs.page.Page.resolve.Given as goal

abbrev pub invariant-loop-place : goal.invariant-loop-place
invariant-loop-place l = record {
  long : length l.cited ≡ 3;
  placed : (j : ℕ) → j < l.place → Placed (formulas_on l.self) (get_or l.cited j (Line 0));
  reached : (h : History) → Has l.self h → (j : ℕ) → j < l.place → Reached h l.fn.rule l.citations j (meaning (formulas_on l.self) (get_or l.cited j (Line 0)));
}
