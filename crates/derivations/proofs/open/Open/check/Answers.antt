use Rattle.std.proofs.Common.{◌≡◌, ℕ, ◌<◌, Bool, true, false, List, [], ◌∷◌, ◌++◌, length, take, Ok, Err, Result, MatchResult, Decides, refl, inl, inr}
use Rattle.grammar.specs.Formula.{Formula}
use Rattle.fitch.specs.Calls.{Room, citation_checks, rule_checks}
use Rattle.fitch.specs.Checks.{Check, unless, Accepted, Refused}
use Rattle.fitch.specs.History.{History, Permits}
use Rattle.fitch.specs.Limits.{most_lines}
use Rattle.fitch.specs.Rules.{Serves}
use Rattle.fitch.specs.declared.refusal.Refusal.{Refusal}
use Rattle.fitch.specs.declared.refusal.Refusal.TheVariants.{NotStored, NotOfMode, DoesNotFit, NoRecord}
use Rattle.fitch.specs.declared.rule.Rule.{Rule}
use Rattle.shapes.specs.Giving.{Gives}
use Rattle.shapes.specs.declared.cited.Cited.{Cited}
use Rattle.ledger.specs.Citing.{AllResolved, AllPlaced}
use Rattle.ledger.specs.Recorded.{Recorded}
use Rattle.ledger.specs.declared.line.Line.{Line}
use Rattle.ledger.proofs.Permitting.{fits_permits, permits_fits}
use Rattle.pages.specs.Of.{PageOf}
use Rattle.pages.specs.Pages.{Has, formulas_on}
use Rattle.pages.specs.declared.page.Page.{Page}
use Rattle.pages.proofs.Reading.{on_page, off_page}
use Rattle.derivations.specs.Derived.{sheet_in, Derived}
use Rattle.derivations.specs.Sheets.{formulas_of, formula_of, Checked}
use Rattle.derivations.specs.declared.open.Open.{Open}
use Rattle.derivations.proofs.Writing.{room_left, room_told}
use Rattle.derivations.proofs.open.Open.check.Goals as goal

-- checks that are passed, and then others
refused_past : (cs ds : List Check) (e : Refusal) → Accepted cs → Refused ds e → Refused (cs ++ ds) e
refused_past [] ds e a r = r
refused_past (k ∷ cs) ds e a r = inr (a.0, refused_past cs ds e a.1 r)

accepted_both : (cs ds : List Check) → Accepted cs → Accepted ds → Accepted (cs ++ ds)
accepted_both [] ds a b = b
accepted_both (k ∷ cs) ds a b = (a.0, accepted_both cs ds a.1 b)

-- what the last check answers is what all answer
checked_last : (cs : List Check) (k : Check) (r : Result Unit Refusal) → Accepted cs → Checked k r → MatchResult r (λ _. Accepted (cs ++ k ∷ [])) (Refused (cs ++ k ∷ []))
checked_last cs k (Ok u) a p = accepted_both cs (k ∷ []) a (p, tt)
checked_last cs k (Err e) a f = refused_past cs (k ∷ []) e a (inl f)

-- the room for a line is the room that the history asks for
room_checked : {fs : List Formula} {es : List Line} {n : ℕ} {h : History} (slice : ℕ) → Recorded fs es n h → (r : Result Unit Refusal) → Checked (unless NoRecord ((n < most_lines) × (n < slice))) r → Checked (unless NoRecord (Room h slice)) r
room_checked slice g (Ok u) room = room_told g room
room_checked slice g (Err e) none = (none.0, λ r. none.1 (room_left g r))

-- the citations are as they are checked, on the page of a derivation
module _ (o : Open) (h : History) (g : Derived o h) (p : Page) (on : PageOf o.store.now o.lines.now o.count p) (r : Rule) (is : List ℕ) (cs : List Cited)
    (exact : (h : History) → Has p h → Accepted (citation_checks h r is) × AllResolved (formulas_on p) h r is cs) where
  passed : Accepted (citation_checks h r is)
  passed = (exact h (on_page on o.fits g.recorded)).0

  module _ (f : ℕ) (stored : f < length (formulas_of (sheet_in o))) (all_placed : AllPlaced (formulas_on p) (length is) cs) (b : Bool) (gives : Decides b (Gives (formulas_of (sheet_in o)) f r (take (length is) cs))) where
    resolved : AllResolved (formulas_of (sheet_in o)) h r is cs
    resolved = off_page on (λ fs. AllResolved fs h r is cs) (exact h (on_page on o.fits g.recorded)).1

    placed : AllPlaced (formulas_of (sheet_in o)) (length is) cs
    placed = off_page on (λ fs. AllPlaced fs (length is) cs) all_placed

    permitted : Serves o.mode r → b ≡ true → Permits o.mode h (formula_of (sheet_in o) f) r is
    permitted serves = fits_permits (formulas_of (sheet_in o)) h r is cs resolved o.mode f stored placed b gives serves

    not_permitted : b ≡ false → Permits o.mode h (formula_of (sheet_in o) f) r is → ⊥
    not_permitted shut permits = let fits = permits_fits (formulas_of (sheet_in o)) h r is cs resolved o.mode f stored placed b gives permits in cc

pub returns-then-not-serves : goal.returns-then-not-serves
returns-then-not-serves c h g =
    let o = c.args.self.now in
    let r = c.args.rule in
    let is = c.args.citations.now in
    let cited = passed o h g _ c.first_lines.ensures r is c.in_ok-cited.cited c.in_ok-cited.ensures.exact in
    inr (
      c.in_ok-check_stored.ensures,
      refused_past (citation_checks h r is) (rule_checks o.mode (formulas_of (sheet_in o)) (length o.lines.now) h c.args.formula r is) NotOfMode cited
          (inl (refl, λ serves. (let is_true = c.serves.ensures.1 serves in cc))),
    )

pub returns-then-not-fits : goal.returns-then-not-fits
returns-then-not-fits c h g =
    let o = c.args.self.now in
    let r = c.args.rule in
    let is = c.args.citations.now in
    let cs = c.in_ok-cited.cited in
    let f = c.args.formula in
    let exact = c.in_ok-cited.ensures.exact in
    let cited = passed o h g _ c.first_lines.ensures r is cs exact in
    inr (
      c.in_ok-check_stored.ensures,
      refused_past (citation_checks h r is) (rule_checks o.mode (formulas_of (sheet_in o)) (length o.lines.now) h f r is) DoesNotFit cited
          (inr (c.serves.ensures.0 c.if-not-serves.false, inl (refl, not_permitted o h g _ c.first_lines.ensures r is cs exact f c.in_ok-check_stored.ensures c.in_ok-cited.ensures.placed c.fits.result c.fits.ensures c.if-not-fits.true))),
    )

pub returns : goal.returns
returns c h g =
    let o = c.args.self.now in
    let r = c.args.rule in
    let is = c.args.citations.now in
    let cs = c.in_ok-cited.cited in
    let f = c.args.formula in
    let exact = c.in_ok-cited.ensures.exact in
    let cited = passed o h g _ c.first_lines.ensures r is cs exact in
    let serves = c.serves.ensures.0 c.if-not-serves.false in
    let permits = permitted o h g _ c.first_lines.ensures r is cs exact f c.in_ok-check_stored.ensures c.in_ok-cited.ensures.placed c.fits.result c.fits.ensures serves c.if-not-fits.false in
    let first = unless NotStored (f < length (formulas_of (sheet_in o))) ∷ citation_checks h r is ++ unless NotOfMode (Serves o.mode r) ∷ unless DoesNotFit (Permits o.mode h (formula_of (sheet_in o) f) r is) ∷ [] in
    checked_last first (unless NoRecord (Room h (length o.lines.now))) c.check_room.result
    (c.in_ok-check_stored.ensures, accepted_both (citation_checks h r is) (unless NotOfMode (Serves o.mode r) ∷ unless DoesNotFit (Permits o.mode h (formula_of (sheet_in o) f) r is) ∷ []) cited (serves, (permits, tt)))
    (room_checked (length o.lines.now) g.recorded c.check_room.result c.check_room.ensures)
