use Rattle.std.proofs.Common.{◌≡◌, ℕ, ◌^◌, ◌<◌, [], get_or, refl, arith, rules}
use Rattle.std.proofs.lemmas.Nat.{one_shl, pow_below}
use Rattle.heyting.specs.Tables.{table}
use Rattle.heyting.proofs.Closures.{Orders, ordered_alone, alone_above, orders_none, closure_frame}
use Rattle.frames.proofs.frame.Frame.alone.Goals as goal
use Rattle.frames.proofs.frame.Frame.alone.Goals.{After-from_fn}

rows : (c : After-from_fn) → (k : ℕ) → k < c.args.worlds → get_or c.from_fn.result k 0 ≡ 2 ^ k
rows c k h =
    let small : k < 12 = omega (arith, c.requires.1) in
    search (rules, one_shl k 16 (omega arith), c.from_fn.ensures.items.at k 0 small)

pub invariant_of-result : goal.invariant_of-result
invariant_of-result c =
    let n = c.args.worlds in
    let up = c.from_fn.result in
    let row = rows (goal.at.invariant_of-result c).After-from_fn in
    record {
      least = c.requires.0;
      most = c.requires.1;
      within = λ u h. rw (row u h) (pow_below u n h);
      ordered = ordered_alone n (table up) (alone_above n up row);
    }

pub returns : goal.returns
returns c =
    let n = c.args.worlds in
    let up = c.from_fn.result in
    let order : Orders n [] (table up) = orders_none n (table up) (alone_above n up (rows (goal.at.returns c).After-from_fn)) in
    record { worlds_is = refl; order = order; frame = closure_frame n [] (table up) order }
