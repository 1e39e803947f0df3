-- A rule permits a line exactly where it fits what its citations stand for.
use Rattle.std.proofs.Common.{◌≡◌, ℕ, ◌<◌, ◌≤◌, Bool, true, List, length, get_or, take, Decides}
use Rattle.grammar.specs.Contents.{formula_at}
use Rattle.grammar.specs.Formula.{Formula}
use Rattle.fitch.specs.Exact.{Reached, NoneCutOff}
use Rattle.fitch.specs.History.{History, Permits}
use Rattle.fitch.specs.Rules.{Serves}
use Rattle.fitch.specs.declared.mode.Mode.{Mode}
use Rattle.fitch.specs.declared.rule.Rule.{Rule}
use Rattle.fitch.proofs.Resolving.{permit, only}
use Rattle.shapes.specs.Giving.{meaning, Placed, Gives}
use Rattle.shapes.specs.declared.cited.Cited.{Cited}
use Rattle.shapes.specs.declared.cited.Cited.TheVariants.{Line}
use Rattle.ledger.proofs.Recording.{length_cited, reached_list, placed_list}

module _ (fs : List Formula) (h : History) (r : Rule) (is : List ℕ) (cs : List Cited) (resolved : (j : ℕ) → j < length is → Reached h r is j (meaning fs (get_or cs j (Line 0)))) where
  pub none_cut_off : NoneCutOff h r is
  none_cut_off j lt = (meaning fs (get_or cs j (Line 0)), resolved j lt)

  module _ (mode : Mode) (f : ℕ) (stored : f < length fs) (placed : (length is ≤ length cs) × ((j : ℕ) → j < length is → Placed fs (get_or cs j (Line 0)))) (b : Bool) (fits : Decides b (Gives fs f r (take (length is) cs))) where
    pub fits_permits : Serves mode r → b ≡ true → Permits mode h (formula_at fs f) r is
    fits_permits serves e = permit mode h (formula_at fs f) r is _ (length_cited fs is cs placed.0) (reached_list fs is cs placed.0 h r resolved) serves (fits.0 e).fits

    pub permits_fits : Permits mode h (formula_at fs f) r is → b ≡ true
    permits_fits p = fits.1 (record {
      stored = stored;
      cited = placed_list fs (length is) cs placed.0 placed.1;
      fits = only mode h (formula_at fs f) r is _ (length_cited fs is cs placed.0) (reached_list fs is cs placed.0 h r resolved) p;
    })
