use Rattle.std.proofs.Common.{◌∷◌, sym, refl, ap, ◌∙◌, ⊎_elim}
use Rattle.std.proofs.lemmas.Result.{err_from_is_err_and}
use Rattle.grammar.specs.Scanning.{step}
use Rattle.grammar.specs.Scanning.Awaited.{formula, a_sign, close}
use Rattle.grammar.specs.declared.symbol.Symbol.TheVariants.{Falsum, Letter, Not, Open}
use Rattle.grammar.proofs.Scans.{inside, found_falsum, found_letter, found_not, found_joined, breaks_here, breaks_not, breaks_first, breaks_sign, breaks_second, breaks_close, no_formula, no_sign, no_close}
use Rattle.scanner.proofs.scan.+scan.Goals as goal

pub returns-in_err-part-in-Not : goal.returns-in_err-part-in-Not
returns-in_err-part-in-Not t c =
    let s = c.args.text.now in
    let at = c.args.at in
    let e = sym c.in-Not.ensures in
    let p = err_from_is_err_and c.from_residual.result c.from_residual.ensures.1 in
    let b = c.in_err-part-in-Not.ensures in
    rw (p.1, p.2) (b.0, b.1, breaks_not s at _ (inside s at Not e tt) e b.2)

pub returns-in_ok-part-in-Not : goal.returns-in_ok-part-in-Not
returns-in_ok-part-in-Not t c =
    let s = c.args.text.now in
    let at = c.args.at in
    let e = sym c.in-Not.ensures in
    found_not s at _ _ _ (inside s at Not e tt) e c.in_ok-part-in-Not.ensures

pub returns-in_err-first-in-Open : goal.returns-in_err-first-in-Open
returns-in_err-first-in-Open t c =
    let s = c.args.text.now in
    let at = c.args.at in
    let e = sym c.in-Open.ensures in
    let p = err_from_is_err_and c.from_residual-in_err-first-in-Open.result c.from_residual-in_err-first-in-Open.ensures.1 in
    let b = c.in_err-first-in-Open.ensures in
    rw (p.1, p.2) (b.0, b.1, breaks_first s at (inside s at Open e tt) e _ b.2)

pub returns-in_default-symbol_at : goal.returns-in_default-symbol_at
returns-in_default-symbol_at t c =
    let s = c.args.text.now in
    let at = c.args.at in
    let e = sym c.in-Open.ensures in (
      _,
      refl,
      breaks_sign s at (inside s at Open e tt) e c.in_ok-first-in-Open.ensures
          (λ st. ap (λ y. step y (a_sign ∷ st)) (sym c.symbol_at-in-Open.ensures) ∙ no_sign _ c.in_default-symbol_at.not-Sign st),
    )

pub returns-in_err-second-in-Open : goal.returns-in_err-second-in-Open
returns-in_err-second-in-Open t c =
    let s = c.args.text.now in
    let at = c.args.at in
    let e = sym c.in-Open.ensures in
    let e' = sym c.in-Sign.ensures in
    let p = err_from_is_err_and c.from_residual-in_err-second-in-Open.result c.from_residual-in_err-second-in-Open.ensures.1 in
    let b = c.in_err-second-in-Open.ensures in
    rw (p.1, p.2) (b.0, b.1, breaks_second s at (inside s at Open e tt) e c.in_ok-first-in-Open.ensures _ (inside s _ _ e' tt) e' _ b.2)

pub returns-in_default-symbol_at-2 : goal.returns-in_default-symbol_at-2
returns-in_default-symbol_at-2 t c =
    let s = c.args.text.now in
    let at = c.args.at in
    let e = sym c.in-Open.ensures in
    let e' = sym c.in-Sign.ensures in (
      _,
      refl,
      breaks_close s at (inside s at Open e tt) e c.in_ok-first-in-Open.ensures _ (inside s _ _ e' tt) e' c.in_ok-second-in-Open.ensures
          (λ st. ap (λ y. step y (close ∷ st)) (sym c.symbol_at-in-Open-2.ensures) ∙ no_close _ c.in_default-symbol_at-2.not-Close st),
    )

pub returns-in-Close : goal.returns-in-Close
returns-in-Close t c =
    let s = c.args.text.now in
    let at = c.args.at in
    let e = sym c.in-Open.ensures in
    let e' = sym c.in-Sign.ensures in
    let e'' = sym c.in-Close.ensures in
    rw c.max.ensures
    (found_joined s at (inside s at Open e tt) e c.in_ok-first-in-Open.ensures _ (inside s _ _ e' tt) e' c.in_ok-second-in-Open.ensures (inside s _ _ e'' tt) e'')

pub returns-in-Falsum : goal.returns-in-Falsum
returns-in-Falsum t c =
    let s = c.args.text.now in
    let at = c.args.at in
    ⊎_elim (λ e. let y = sym c.symbol_at.ensures ∙ e in found_falsum s at (inside s at Falsum y tt) y) (λ e. let y = sym c.symbol_at.ensures ∙ e in found_letter s at (inside s at Letter y tt) y) c.in-Falsum.is

pub returns-in_default : goal.returns-in_default
returns-in_default t c =
    let w = c.in_default in (
      _,
      refl,
      breaks_here c.args.text.now c.args.at c.requires
          (λ st. ap (λ y. step y (formula ∷ st)) (sym c.symbol_at.ensures) ∙ no_formula _ w.not-Falsum w.not-Letter w.not-Not w.not-Open st),
    )
