use Rattle.std.proofs.Common.{eqb-true, ltb-true, sym, ◌∙◌, arith}
use Rattle.std.proofs.lemmas.Bool.{and_parts}
use Rattle.formulas.specs.Stores.{contents}
use Rattle.shapes.proofs.Fitting.{gives_or_elim, boxes_end, never}
use Rattle.rules.proofs.box_rules.splits.Goals as goal
use Rattle.rules.proofs.box_rules.splits.Goals.{then-formula-count, else-formula-count}

pub returns-then-eq : goal.returns-then-eq
returns-then-eq c =
    let s = c.args.store.now in
    let m = c.in-Line-Box-Box in
    rw (m.is-0, m.is-1, m.is-2)
    (elim c.if-formula-count.branch [
      | then-formula-count w ↦ (let both = and_parts _ _ (sym w.eq.ensures ∙ sym w.value-is ∙ c.if-eq.true) in let h = w.if-formula-count.true in gives_or_elim (contents s) s.once c.args.formula m.line m.first m.end m.second m.other (omega (arith, c.count.ensures)) (eqb-true _ _ both.0) (eqb-true _ _ both.1) c.is_joined.ensures)
      | else-formula-count w ↦ (let k = w.if-formula-count.false in let h = ltb-true _ _ (sym w.value-is ∙ c.if-eq.true) in absurd (omega arith))
    ])

pub returns-else-eq : goal.returns-else-eq
returns-else-eq c =
    let s = c.args.store.now in
    let m = c.in-Line-Box-Box in
    rw (m.is-0, m.is-1, m.is-2, c.if-eq.false)
    (never (λ g. elim c.if-formula-count.branch [
      | then-formula-count w ↦ (let both = boxes_end (contents s) s.once c.args.formula m.line m.first m.end m.second m.other g in let e = w.eq.ensures in let v = w.value-is in let t = c.if-eq.false in cc)
      | else-formula-count w ↦ (let h = g.stored in let k = w.if-formula-count.false in omega (arith, c.count.ensures))
    ]))
