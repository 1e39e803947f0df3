use Rattle.std.proofs.Common.{◌≡◌, ℕ, ◌+◌, ◌-◌, ◌≤◌, List, ◌++◌, rules, length, take, sym, ap, ◌∙◌, subst, length-take-le, arith}
use Rattle.std.proofs.KnownBytes.{Consumes-kept, Consumes-trans}
use Rattle.std.proofs.Math.Seq.{take-append-add}
use Rattle.std.proofs.lemmas.List.{take-append-le}
use Rattle.std.proofs.lemmas.Slice.{take-put_mid_below}
use Rattle.std.specs.Io.KnownBytes.{Consumes}
use borrow.Rule.Slice.PartMut.{put_mid, post_of}
use Rattle.console.proofs.fill.Goals as goal
use Rattle.console.proofs.fill.Goals.{in-Ok, in-Err}

-- a part that was read into is taken with what stands before it
take-put_mid_more : (a k n : ℕ) (xs ys : List ℕ) → a ≤ length xs → n ≤ length ys → take (a + n) (put_mid a k xs ys) ≡ take a xs ++ take n ys
take-put_mid_more a k n xs ys within fits =
    let before = take a xs in
    let behind = ys ++ post_of a k xs in
    ap (λ m. take (m + n) (before ++ behind)) (sym (length-take-le a xs within))
    ∙ take-append-add before behind n
    ∙ ap (λ l. before ++ l) (take-append-le n ys (post_of a k xs) fits)

pub loop-preserved : goal.loop-preserved
loop-preserved g c =
    let filled = c.loop.filled in
    let buffer = c.loop.buffer in
    elim c.match-read.branch [
      | in-Ok w ↦
          let fits = w.in-Ok.ensures.bound.0 in
          let taken = take-put_mid_more filled (length buffer - filled) w.in-Ok.count buffer c.read.new.buf c.loop.invariant.within fits in
          rw w.filled-is (record {
            long = search rules;
            within = search rules;
            read = subst (Consumes _ _) (sym taken) (Consumes-trans _ _ _ _ _ c.loop.invariant.read w.in-Ok.ensures.bytes.0);
          })
      | in-Err w ↦
          let kept = take-put_mid_below filled (length buffer - filled) buffer c.read.new.buf filled (omega arith) c.loop.invariant.within in
          rw w.filled-is (record {
            long = search rules;
            within = search rules;
            read = subst (Consumes _ _) (sym kept) (Consumes-kept _ _ _ _ c.loop.invariant.read w.in-Err.ensures.bytes);
          })
    ]
