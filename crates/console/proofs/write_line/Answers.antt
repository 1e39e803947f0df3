use Rattle.std.proofs.Common.{◌-◌, ◌++◌, rules, length, take, drop, sym, ap, subst, ◌∙◌, arith}
use lib.Seq.{take-add, take-take}
use Rattle.std.specs.Io.KnownBytes.{Appends}
use Rattle.std.proofs.KnownBytes.{Appends-kept, Appends-trans}
use Rattle.console.proofs.write_line.Goals as goal
use Rattle.console.proofs.write_line.Goals.{in-Ok, in-Err}

pub loop-preserved : goal.loop-preserved
loop-preserved g c =
    let done = c.loop.written in
    let xs = c.args.line.now in
    elim c.match-write.branch [
      | in-Ok w ↦
          let n = w.in-Ok.count in
          let fits = w.in-Ok.ensures.bound in
          let joined = ap (λ l. take done xs ++ l) (take-take n (length xs - done) (drop done xs) (omega arith)) ∙ sym (take-add done n xs) in
          rw w.written-is (record { within = search rules; appended = subst (Appends _ _) joined (Appends-trans _ _ _ _ _ c.loop.invariant.appended w.in-Ok.ensures.bytes) })
      | in-Err w ↦ rw w.written-is (record { within = search rules; appended = Appends-kept _ _ _ _ c.loop.invariant.appended w.in-Err.ensures.bytes })
    ]
