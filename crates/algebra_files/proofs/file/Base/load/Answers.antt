use Rattle.std.proofs.Common.{◌<◌, ◌+◌, length, map, sym, ap, ◌∙◌, arith}
use Rattle.entries.specs.Entries.{stored}
use Rattle.answers.specs.declared.fault.Fault.TheVariants as faults
use Rattle.answers.specs.declared.fault.Reason.TheVariants.{Algebra}
use Rattle.heyting.specs.declared.refusal.Refusal.TheVariants.{NoSuchWorld}
use Rattle.frames.proofs.Relating.{one_loaded, not_loaded, all_loaded}
use Rattle.algebra_files.specs.Reading.{pairs_in}
use Rattle.algebra_files.proofs.Runs.{pairs_length, pair_is, no_other}
use Rattle.algebra_files.proofs.file.Base.load.Goals as goal

pub returns-then-is_err : goal.returns-then-is_err
returns-then-is_err c =
    let b = c.args.self.now in
    let l = c.loop-i in
    let ps = pairs_in (map stored b.pairs.now) in
    let within : l.i < length ps = omega (arith, c.loop-i-test.true, pairs_length b.pairs.now b.only) in
    let is = pair_is b.pairs.now b.only l.i c.in-Pair.u c.in-Pair.v _ c.loop-i-test.true c.in-Pair.is in (
      NoSuchWorld (l.i + 1),
      c.at.ensures ∙ ap (λ n. faults.At n (Algebra (NoSuchWorld (l.i + 1)))) c.saturating_add.ensures,
      not_loaded b.worlds ps l.i l.frame l.invariant c.in-Pair.u c.in-Pair.v c.relate.new.self c.relate.result within is (sym c.is_err.ensures.value ∙ c.if-is_err.true) c.relate.ensures,
    )

pub loop-i-preserved : goal.loop-i-preserved
loop-i-preserved c =
    let b = c.args.self.now in
    let l = c.loop-i in
    let ps = pairs_in (map stored b.pairs.now) in
    let within : l.i < length ps = omega (arith, c.loop-i-test.true, pairs_length b.pairs.now b.only) in
    let is = pair_is b.pairs.now b.only l.i c.in-Pair.u c.in-Pair.v _ c.loop-i-test.true c.in-Pair.is in
    one_loaded b.worlds ps l.i l.frame l.invariant c.in-Pair.u c.in-Pair.v c.relate.new.self c.relate.result within is (sym c.is_err.ensures.value ∙ c.if-is_err.false) c.relate.ensures

pub loop-i-preserved-in_default : goal.loop-i-preserved-in_default
loop-i-preserved-in_default c = absurd (no_other c.args.self.now.pairs.now c.args.self.now.only c.loop-i.i _ c.loop-i-test.true c.in_default.not-Pair)

pub returns : goal.returns
returns c =
    let b = c.args.self.now in
    let done = all_loaded b.worlds (pairs_in (map stored b.pairs.now)) c.loop-i.i c.loop-i.frame c.loop-i.invariant (omega (arith, c.loop-i-test.false, pairs_length b.pairs.now b.only)) in
    record { loadable = done.0; frame = done.1.frame }
