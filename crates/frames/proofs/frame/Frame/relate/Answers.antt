use Rattle.std.proofs.Common.{◌≡◌, ℕ, ◌<◌, List, ◌∷◌, [], ◌++◌, get_or, refl, sym, subst, arith}
use Rattle.heyting.specs.Tables.{table, kripke}
use Rattle.heyting.specs.Worlds.{FrameOf}
use Rattle.heyting.proofs.Closures.{Orders, grown, grown_above, grown_lt, related_ordered, orders_more, closure_frame}
use Rattle.frames.specs.Frames.{Ordered}
use Rattle.frames.specs.declared.frame.Frame.{Frame}
use Rattle.frames.proofs.frame.Frame.relate.Goals as goal
use Rattle.frames.proofs.frame.Frame.relate.Goals.{After-loop-row}

rows : (c : After-loop-row) → (k : ℕ) → k < c.args.self.now.worlds → get_or c.loop-row.row-items k 0 ≡ grown c.args.self.now.up c.args.u c.args.v k
rows c k h = c.loop-row.invariant.1 k (omega (arith, c.args.self.now.most))

pub invariant_of-self : goal.invariant_of-self
invariant_of-self c =
    let f = c.args.self.now in
    let u = c.args.u in
    let v = c.args.v in
    let up = c.loop-row.row-items in
    let row = rows (goal.at.invariant_of-self c).After-loop-row in
    record {
      least = f.least;
      most = f.most;
      within = λ k h. rw (row k h) (grown_lt f.worlds f.up u v k f.within c.if-v-worlds.false h);
      ordered = related_ordered f.worlds (table f.up) f.ordered u v c.if-u-worlds.false c.if-v-worlds.false (table up) (grown_above f.worlds f.up up u v row);
    }

-- the rows of f and those after v is put above u
module _ (f : Frame) (u v : ℕ) (up : List ℕ) (hu : u < f.worlds) (hv : v < f.worlds) (row : (k : ℕ) → k < f.worlds → get_or up k 0 ≡ grown f.up u v k) where
  one_more : (worlds : ℕ) (pairs : List (ℕ × ℕ)) → Ordered worlds pairs f → Orders worlds (pairs ++ (u, v) ∷ []) (table up)
  one_more worlds pairs o =
      let n = o.worlds_is in
      orders_more worlds pairs (table f.up) (table up) u v (rw n at hu) (rw n at hv) (λ w x h. grown_above f.worlds f.up up u v row w x (omega (arith, h, n))) o.order

  still_frame : (worlds : ℕ) (pairs : List (ℕ × ℕ)) → Ordered worlds pairs f → FrameOf worlds (pairs ++ (u, v) ∷ []) (kripke f.worlds (table up))
  still_frame worlds pairs o =
      subst (λ n. FrameOf worlds (pairs ++ (u, v) ∷ []) (kripke n (table up))) (sym o.worlds_is) (closure_frame worlds (pairs ++ (u, v) ∷ []) (table up) (one_more worlds pairs o))

pub returns : goal.returns
returns c =
    let f = c.args.self.now in
    let u = c.args.u in
    let v = c.args.v in
    let up = c.loop-row.row-items in
    let hu = c.if-u-worlds.false in
    let hv = c.if-v-worlds.false in
    let row = rows (goal.at.returns c).After-loop-row in (
      (hu, hv),
      λ worlds pairs o. record { worlds_is = o.worlds_is; order = one_more f u v up hu hv row worlds pairs o; frame = still_frame f u v up hu hv row worlds pairs o },
      refl,
      λ w x h. grown_above f.worlds f.up up u v row w x h,
    )
