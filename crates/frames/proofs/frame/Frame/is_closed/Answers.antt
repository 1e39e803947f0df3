use Rattle.std.proofs.Common.{◌≡◌, ℕ, ◌<◌, Bool, true, false, ◌==◌, length, get_or, sym, refl, ◌∙◌, ap, arith, rules}
use Rattle.std.specs.Bool.{MatchBool}
use Rattle.std.specs.List.{range_with_len, AllWithin, HoldsAt}
use Rattle.std.proofs.lemmas.Iterator.{cases_from_all, YieldsList-from_range}
use Rattle.std.proofs.lemmas.List.FromFn.{length-range_with_len, get_or-range_with_len}
use borrow.Author.Tests.{tests}
use lib.Bits.{bit_and}
use Rattle.heyting.specs.Tables.{table, each, closed_at, implies}
use Rattle.heyting.specs.Worlds.{holds}
use Rattle.heyting.proofs.Sets.{each_from, each_broken, member_row}
use Rattle.frames.proofs.frame.Frame.is_closed.Goals as goal

-- what asking each world below n in turn tells: all pass, or one fails
abbrev Told : (ℕ → Bool) → ℕ → Bool → Type 0
Told row n r =
    let worlds = range_with_len 0 n in
    MatchBool r (AllWithin (λ u. row u ≡ true) worlds 0 (length worlds)) ((k : ℕ) × (k < length worlds) × HoldsAt (λ u. row u ≡ false) worlds k)

each_told : (row p : ℕ → Bool) (n : ℕ) → ((u : ℕ) → u < n → row u ≡ p u) → (r : Bool) → Told row n r → r ≡ each p n
each_told row p n same = go
  where
    at : (k : ℕ) → k < n → row (get_or (range_with_len 0 n) k 0) ≡ p k
    at k h = ap row (get_or-range_with_len 0 n k 0 h ∙ omega arith) ∙ same k h

    go : (r : Bool) → Told row n r → r ≡ each p n
    go true all = sym (each_from p n λ u h. sym (at u h) ∙ all u 0 (omega arith) (rw length-range_with_len h))
    go false (k, within, fails) = let h : k < n = rw length-range_with_len at within in sym (each_broken p n k h (sym (at k h) ∙ fails 0))

pub returns : goal.returns
returns c =
    let f = c.args.self.now in
    let a = c.args.a in
    let row : ℕ → Bool = λ u. implies (holds a u) (bit_and (get_or f.up u 0) a == get_or f.up u 0) in
    let told = cases_from_all _ _ _ (λ u. row u ≡ true) (λ u. row u ≡ false) c.all.ensures.ran (YieldsList-from_range 0 f.worlds f.worlds refl (omega arith))
    (λ u q k. search (rules, tests)) (λ u q k. search (rules, tests)) in
    each_told row (closed_at f.worlds (table f.up) a) f.worlds (λ u h. member_row f.worlds a (get_or f.up u 0) u (f.within u h)) c.all.result told
