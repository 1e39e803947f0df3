use Rattle.std.proofs.Common.{refl, get_or, sym, ◌∙◌}
use Rattle.frames.proofs.Relating.{none_loaded, one_loaded, not_loaded, all_loaded}
use Rattle.frames.proofs.frame.Frame.load.Goals as goal

pub loop-i-init : goal.loop-i-init
loop-i-init c = none_loaded c.args.worlds c.args.pairs.now c.in_ok-frame.frame c.in_ok-frame.ensures.0 c.in_ok-frame.ensures.1

pub loop-i-preserved : goal.loop-i-preserved
loop-i-preserved c =
    let l = c.loop-i in
    let p = get_or c.args.pairs.now l.i (0, 0) in
    one_loaded c.args.worlds c.args.pairs.now l.i l.frame l.invariant p.0 p.1 c.relate.new.self c.relate.result c.loop-i-test.true refl (sym c.is_err.ensures.value ∙ c.if-is_err.false) c.relate.ensures

pub returns-then-is_err : goal.returns-then-is_err
returns-then-is_err c =
    let l = c.loop-i in
    let p = get_or c.args.pairs.now l.i (0, 0) in (
      not_loaded c.args.worlds c.args.pairs.now l.i l.frame l.invariant p.0 p.1 c.relate.new.self c.relate.result c.loop-i-test.true refl (sym c.is_err.ensures.value ∙ c.if-is_err.true) c.relate.ensures,
      refl,
    )

pub returns : goal.returns
returns c = all_loaded c.args.worlds c.args.pairs.now c.loop-i.i c.loop-i.frame c.loop-i.invariant c.loop-i-test.false
