use Rattle.std.proofs.Common.{◌≡◌, ℕ, ◌+◌, List, length, Ok, Err, Result, MatchResult, sym, refl, ◌∙◌, inl, inr}
use Rattle.grammar.specs.Formula.{Formula}
use Rattle.fitch.specs.Calls.{citation_checks}
use Rattle.fitch.specs.Checks.{Accepted, Refused}
use Rattle.fitch.specs.Exact.{NoneMissing}
use Rattle.fitch.specs.History.{History}
use Rattle.fitch.specs.Rules.{kinds}
use Rattle.fitch.specs.declared.refusal.Refusal.{Refusal}
use Rattle.fitch.specs.declared.rule.Rule.{Rule}
use Rattle.shapes.specs.declared.cited.Cited.{Cited}
use Rattle.ledger.specs.Citing.{AllResolved, ResolvesAll}
use Rattle.ledger.proofs.Permitting.{none_cut_off}
use Rattle.ledger.proofs.Recording.{none_missing, first_missing}
use Rattle.pages.specs.Pages.{formulas_on}
use Rattle.pages.proofs.page.Page.cited.Goals as goal

-- so many citations as the rule takes, each of which names a line
checked : (fs : List Formula) (h : History) (r : Rule) (is : List ℕ) → length is ≡ length (kinds r) → NoneMissing h is → (q : Result (List Cited) Refusal) → ResolvesAll fs h r is q
    → MatchResult q (λ cs. Accepted (citation_checks h r is) × AllResolved fs h r is cs) (Refused (citation_checks h r is))
checked fs h r is number named (Ok cs) resolved = ((number, (named, (none_cut_off fs h r is cs resolved, tt))), resolved)
checked fs h r is number named (Err e) cut_off = inr (number, inr (named, inl cut_off))

pub returns-in-Some-clause-exact : goal.returns-in-Some-clause-exact
returns-in-Some-clause-exact c h g = inr (c.if-citations-arity.false ∙ c.arity.ensures, inl (c.in-Some.place + 1, refl, first_missing g c.args.citations.now c.in-Some.place (sym c.in-Some.ensures)))

pub returns-clause-exact : goal.returns-clause-exact
returns-clause-exact c h g =
    let named = none_missing g c.args.citations.now (sym c.missing.ensures ∙ c.in_default.is) in
    checked (formulas_on c.args.self.now) h c.args.rule c.args.citations.now (c.if-citations-arity.false ∙ c.arity.ensures) named c.resolve.result (c.resolve.ensures.resolves h g)
