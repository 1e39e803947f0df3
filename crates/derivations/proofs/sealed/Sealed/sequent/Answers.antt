use Rattle.std.proofs.Common.{◌≡◌, ℕ, ◌-◌, ◌<◌, true, false, List, [], ◌∷◌, length, get_or, None, Some, Err, Option, MatchOption, sym, refl, ap, ◌∙◌, inl, inr, arith}
use Rattle.std.specs.Option.{is_some}
use Rattle.std.proofs.lemmas.Grind.{common_steps}
use Rattle.std.proofs.lemmas.List.{nil_from_length}
use Rattle.grammar.specs.Contents.{formula_at}
use Rattle.fitch.specs.Exact.{Concludes}
use Rattle.fitch.specs.History.{History, boxes, outer}
use Rattle.fitch.specs.Records.{Reach}
use Rattle.fitch.specs.declared.refusal.Refusal.TheVariants.{NoTopLine}
use Rattle.ledger.specs.Recorded.{no_line}
use Rattle.ledger.specs.Stack.{reach}
use Rattle.ledger.specs.Telling.{IsLastTop}
use Rattle.ledger.specs.declared.open_box.OpenBox.{OpenBox}
use Rattle.ledger.specs.declared.sequent.Sequent.{Sequent}
use Rattle.ledger.proofs.Calling.{depth_is}
use Rattle.ledger.proofs.Concluding.{concluded, unconcluded}
use Rattle.ledger.proofs.Informing.{sequent_of}
use Rattle.pages.specs.Of.{PageOf}
use Rattle.pages.specs.declared.page.Page.{Page}
use Rattle.pages.proofs.Reading.{on_page, off_page}
use Rattle.boxes.specs.Stack.{stack}
use Rattle.derivations.specs.Finished.{Finished, formulas_by}
use Rattle.derivations.specs.declared.sealed.Sealed.{Sealed}
use Rattle.derivations.proofs.Sounding.{sequent_entails}
use Rattle.derivations.proofs.sealed.Sealed.sequent.Goals as goal

-- a table has a top where a box is open
top_open : (ts : List Reach) (top : Option OpenBox) → MatchOption top (ts ≡ []) (λ t. ts ≡ reach t ∷ outer ts) → (is_some top ≡ true → 0 < length ts) × (is_some top ≡ false → ts ≡ [])
top_open ts None e = (λ yes. absurd (cc), λ no. e)
top_open ts (Some t) e = (λ yes. omega (arith, ap length e), λ no. absurd (cc))

none_open : (d : Sealed) (h : History) → Finished d h → stack d.boxes ≡ [] → boxes h ≡ []
none_open d h g e = nil_from_length _ (sym (depth_is g) ∙ ap length e)

-- the last line at the top level, by the page
module _ (d : Sealed) (h : History) (g : Finished d h) (p : Page) (on : PageOf d.store.now d.lines.now d.count p) (last : ℕ) (top : IsLastTop p.lines.now last) where
  last_held : (get_or p.lines.now (last - 1) no_line).formula < length (formulas_by d)
  last_held = off_page on (λ fs. (get_or p.lines.now (last - 1) no_line).formula < length fs) ((on_page on d.fits g.recorded).stored (last - 1) (omega (arith, top.some, top.within)))

  last_concludes : Concludes h (formula_at (formulas_by d) (get_or p.lines.now (last - 1) no_line).formula)
  last_concludes = off_page on (λ fs. Concludes h (formula_at fs (get_or p.lines.now (last - 1) no_line).formula)) (concluded (on_page on d.fits g.recorded) last top)

pub returns-then-is_some-clause-exact : goal.returns-then-is_some-clause-exact
returns-then-is_some-clause-exact c h g =
    let some = (top_open _ c.top.result c.top.ensures).0 (sym c.is_some.ensures ∙ c.if-is_some.true) in
    inl (refl, λ e. omega (arith, some, depth_is g, ap length e))

pub returns-in_err-last-clause-exact : goal.returns-in_err-last-clause-exact
returns-in_err-last-clause-exact c h g =
    let d = c.args.self.now in
    let none = none_open d h g ((top_open _ c.top.result c.top.ensures).1 (sym c.is_some.ensures ∙ c.if-is_some.false)) in
    let top = rw c.in_err-last.ensures.ok_part at c.last_top.ensures in
    let refused : c.from_residual.result ≡ Err NoTopLine = grind (arith, common_steps) in
    rw refused (inr (none, inl (refl, λ t. unconcluded (on_page c.first_lines-page.ensures d.fits g.recorded) top t.0 t.1 t.2)))

pub returns-clause-exact : goal.returns-clause-exact
returns-clause-exact c h g =
    let d = c.args.self.now in
    let none = none_open d h g ((top_open _ c.top.result c.top.ensures).1 (sym c.is_some.ensures ∙ c.if-is_some.false)) in
    let top = rw c.in_ok-last.ensures.ok_part at c.last_top.ensures in
    let concludes = last_concludes d h g _ c.first_lines-page.ensures c.in_ok-last.last top in
    ((none, ((concludes.end, _, concludes.last), tt)), sequent_of d.fits g _ refl refl c.premise_places.ensures (last_held d h g _ c.first_lines-page.ensures c.in_ok-last.last top) concludes)

pub returns-clause-entails : goal.returns-clause-entails
returns-clause-entails c =
    let d = c.args.self.now in
    let last = c.in_ok-last.last in
    let top = rw c.in_ok-last.ensures.ok_part at c.last_top.ensures in
    let s : Sequent = record { mode = d.mode; places = c.premise_places.result; count = d.premises; conclusion = (get_or c.first_lines-page.result.lines.now (last - 1) no_line).formula; few = d.few } in
    sequent_entails d s (λ h g. sequent_of d.fits g s refl refl c.premise_places.ensures (last_held d h g _ c.first_lines-page.ensures last top) (last_concludes d h g _ c.first_lines-page.ensures last top))
