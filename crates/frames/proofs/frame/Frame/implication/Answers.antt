use Rattle.std.proofs.Common.{◌≡◌, ◌^◌, ◌<◌, cond, get_or, sym, ap, ◌∙◌, arith}
use lib.Bits.{bit_or, or_zero_r}
use Rattle.std.proofs.lemmas.Nat.{one_shl}
use Rattle.heyting.proofs.Sets.{collect_more, arrow_row}
use Rattle.frames.proofs.frame.Frame.implication.Goals as goal
use Rattle.frames.proofs.frame.Frame.implication.Goals.{then-inside, else-inside}

pub loop-u-preserved : goal.loop-u-preserved
loop-u-preserved c =
    let f = c.args.self.now in
    let u = c.loop-u.u in
    let within = c.loop-u-test.true in
    let row = arrow_row f.worlds c.args.a c.args.b (get_or f.up u 0) (f.within u within) in
    let small : u < 32 = omega (arith, f.most) in
    let next : c.if-inside.worlds ≡ bit_or c.loop-u.worlds (cond c.inside.result (2 ^ u) 0) =
    elim c.if-inside.branch [
      | then-inside w ↦ w.worlds-is ∙ ap (bit_or c.loop-u.worlds) (one_shl u 32 small ∙ rw w.if-inside.true)
      | else-inside w ↦ w.worlds-is ∙ sym (or_zero_r c.loop-u.worlds) ∙ rw w.if-inside.false
    ] in
    collect_more _ u c.if-inside.worlds (rw (c.loop-u.invariant, c.inside.ensures, c.above.ensures, row) at next)
