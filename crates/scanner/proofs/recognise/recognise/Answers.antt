use Rattle.std.proofs.Common.{sym, ◌∙◌, arith}
use Rattle.std.proofs.lemmas.Result.{err_from_is_err_and}
use Rattle.grammar.proofs.FirstPlaces.{breaks_none, ends_none, whole_text}
use Rattle.grammar.proofs.Measures.{signs_joins}
use Rattle.scanner.proofs.recognise.recognise.Goals as goal

pub returns-in_err-end : goal.returns-in_err-end
returns-in_err-end c =
    let p = err_from_is_err_and c.from_residual.result c.from_residual.ensures.1 in
    let b = c.in_err-end.ensures in
    rw (p.1, p.2, b.1) (c.if-text-gt-MOST_BYTES.false, breaks_none c.args.text.now _ b.2)

pub returns-then-end-text : goal.returns-then-end-text
returns-then-end-text c = (c.if-text-gt-MOST_BYTES.false, ends_none c.args.text.now _ _ _ c.in_ok-end.ensures c.if-end-text.true)

pub returns : goal.returns
returns c =
    let found = c.in_ok-end.ensures in
    let text = whole_text c.args.text.now _ _ _ found c.if-end-text.false in
    record {
      formula = found.formula;
      readable = record { short = c.if-text-gt-MOST_BYTES.false; text = text; shallow = omega (arith, found.nested) };
      nested = found.nested;
      signed = found.signed ∙ sym (signs_joins text);
    }
