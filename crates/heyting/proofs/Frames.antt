-- A finite frame of worlds is a Heyting algebra, and one algebra.
use Rattle.std.proofs.Common.{◌≡◌, ℕ, ◌-◌, ◌^◌, ◌<◌, ◌≤◌, Bool, true, false, ◌&&◌, ◌||◌, sym, refl, ap, ◌∙◌, subst, ⊎_elim, arith, pow_pos, pow_mono}
use mathlib.Core.Bool.{and_assoc, or_assoc}
use lib.Bits.{bit_and, bit_or, and_lt, or_lt}
use Rattle.std.proofs.lemmas.Bool.{and_parts, and_from, or_cases, or_left, or_right, both_ways}
use Rattle.std.proofs.lemmas.Bool.Decides.{same_from_decides}
use Rattle.heyting.specs.Loading.{InRange}
use Rattle.heyting.specs.Meaning.{Meaning, Lawful, Member}
use Rattle.heyting.specs.Tables.{of_sets}
use Rattle.heyting.specs.Worlds.{holds, Has, OfWorlds}
use Rattle.heyting.proofs.Sets.{holds_and, holds_or, holds_zero, holds_top, extent, inside_at, inside_from}

absorb_and : (x y : Bool) → (x && (x || y)) ≡ x
absorb_and true y = refl
absorb_and false y = refl

absorb_or : (x y : Bool) → (x || (x && y)) ≡ x
absorb_or true y = refl
absorb_or false y = refl

module _ (n : ℕ) (R : ℕ → ℕ → Type 0) (m : Meaning) (w : OfWorlds n R m) where
  pub sets : m ≡ of_sets n m.member m.arrow
  sets i = record {
    span = w.span_is i;
    member = m.member;
    bottom = w.bottom_is i;
    top = w.top_is i;
    meet = λ a b. w.meet_is a b i;
    join = λ a b. w.join_is a b i;
    arrow = m.arrow;
  }

  pub member_lt : (a : ℕ) → Member m a → a < 2 ^ n
  member_lt a e = ((w.member_is a).0 e).0

  pub member_closed : (a : ℕ) → Member m a → (u v : ℕ) → u < n → v < n → R u v → Has a u → Has a v
  member_closed a e = ((w.member_is a).0 e).1

  pub member_from : (a : ℕ) → a < 2 ^ n → ((u v : ℕ) → u < n → v < n → R u v → Has a u → Has a v) → Member m a
  member_from a h f = (w.member_is a).1 (h, f)

  pub arrow_at : (a b u v : ℕ) → u < n → v < n → Has (m.arrow a b) u → R u v → Has a v → Has b v
  arrow_at a b u v hu hv e = (w.arrow_is a b u hu).0 e v hv

  pub arrow_from : (a b u : ℕ) → u < n → ((v : ℕ) → v < n → R u v → Has a v → Has b v) → Has (m.arrow a b) u
  arrow_from a b u hu = (w.arrow_is a b u hu).1

  module _ (range : InRange n) (reflexive : (u : ℕ) → u < n → R u u) (transitive : (u v x : ℕ) → u < n → v < n → x < n → R u v → R v x → R u x) where
    meet_lt : (a b : ℕ) → Member m a → Member m b → bit_and a b < 2 ^ n
    meet_lt a b ha hb = and_lt n a b (member_lt a ha) (member_lt b hb)

    join_lt : (a b : ℕ) → Member m a → Member m b → bit_or a b < 2 ^ n
    join_lt a b ha hb = or_lt n a b (member_lt a ha) (member_lt b hb)

    meet_member : (a b : ℕ) → Member m a → Member m b → Member m (bit_and a b)
    meet_member a b ha hb =
        member_from (bit_and a b) (meet_lt a b ha hb)
        (λ u v hu hv k h. let p = and_parts (holds a u) (holds b u) (sym (holds_and a b u) ∙ h) in
        holds_and a b v ∙ and_from (holds a v) (holds b v) (member_closed a ha u v hu hv k p.0) (member_closed b hb u v hu hv k p.1))

    join_member : (a b : ℕ) → Member m a → Member m b → Member m (bit_or a b)
    join_member a b ha hb =
        member_from (bit_or a b) (join_lt a b ha hb)
        (λ u v hu hv k h. holds_or a b v ∙
        ⊎_elim (λ e. or_left (holds a v) (holds b v) (member_closed a ha u v hu hv k e)) (λ e. or_right (holds a v) (holds b v) (member_closed b hb u v hu hv k e))
        (or_cases (holds a u) (holds b u) (sym (holds_or a b u) ∙ h)))

    arrow_member : (a b : ℕ) → Member m a → Member m b → Member m (m.arrow a b)
    arrow_member a b ha hb =
        member_from (m.arrow a b) (w.arrow_below a b)
        (λ u v hu hv k h. arrow_from a b v hv (λ x hx l e. arrow_at a b u x hu hx h (transitive u v x hu hv hx k l) e))

    sets_lawful : Lawful (of_sets n m.member m.arrow)
    sets_lawful = record {
      span_low = pow_pos n;
      span_high = let p : 2 ^ n ≤ 2 ^ 12 = pow_mono range.1 in omega arith;
      inside = member_lt;
      bottom_in = member_from 0 (pow_pos n) (λ u v hu hv k h. absurd (both_ways (holds 0 u) (holds_zero u) h));
      top_in = member_from (2 ^ n - 1) (omega (arith, pow_pos n)) (λ u v hu hv k h. holds_top n v hv);
      meet_in = meet_member;
      join_in = join_member;
      arrow_in = arrow_member;
      meet_comm = λ a b ha hb. lib.Bits.and_comm a b;
      meet_assoc = λ a b c ha hb hc.
          extent n _ _ (and_lt n (bit_and a b) c (meet_lt a b ha hb) (member_lt c hc)) (and_lt n a (bit_and b c) (member_lt a ha) (meet_lt b c hb hc))
          (λ u h. holds_and (bit_and a b) c u ∙ ap (λ x. x && holds c u) (holds_and a b u) ∙ and_assoc (holds a u) (holds b u) (holds c u)
          ∙ sym (holds_and a (bit_and b c) u ∙ ap (λ x. holds a u && x) (holds_and b c u)));
      join_comm = λ a b ha hb. lib.Bits.or_comm a b;
      join_assoc = λ a b c ha hb hc.
          extent n _ _ (or_lt n (bit_or a b) c (join_lt a b ha hb) (member_lt c hc)) (or_lt n a (bit_or b c) (member_lt a ha) (join_lt b c hb hc))
          (λ u h. holds_or (bit_or a b) c u ∙ ap (λ x. x || holds c u) (holds_or a b u) ∙ or_assoc (holds a u) (holds b u) (holds c u)
          ∙ sym (holds_or a (bit_or b c) u ∙ ap (λ x. holds a u || x) (holds_or b c u)));
      meet_absorbs = λ a b ha hb.
          extent n _ _ (and_lt n a (bit_or a b) (member_lt a ha) (join_lt a b ha hb)) (member_lt a ha)
          (λ u h. holds_and a (bit_or a b) u ∙ ap (λ x. holds a u && x) (holds_or a b u) ∙ absorb_and (holds a u) (holds b u));
      join_absorbs = λ a b ha hb.
          extent n _ _ (or_lt n a (bit_and a b) (member_lt a ha) (meet_lt a b ha hb)) (member_lt a ha)
          (λ u h. holds_or a (bit_and a b) u ∙ ap (λ x. holds a u || x) (holds_and a b u) ∙ absorb_or (holds a u) (holds b u));
      bottom_least = λ a ha. refl;
      top_greatest = λ a ha. inside_from n a (2 ^ n - 1) (member_lt a ha) (λ u h _. holds_top n u h);
      residual = λ a b c ha hb hc. (
        λ e. inside_from n a (m.arrow b c) (member_lt a ha)
            (λ u hu h. arrow_from b c u hu (λ v hv k l. inside_at (bit_and a b) c v e
            (holds_and a b v ∙ and_from (holds a v) (holds b v) (member_closed a ha u v hu hv k h) l))),
        λ e. inside_from n (bit_and a b) c (meet_lt a b ha hb)
            (λ u hu h. let p = and_parts (holds a u) (holds b u) (sym (holds_and a b u) ∙ h) in
            arrow_at b c u u hu hu (inside_at a (m.arrow b c) u e p.0) (reflexive u hu) p.1),
      );
    }

    pub worlds_lawful : Lawful m
    worlds_lawful = subst Lawful (sym sets) sets_lawful

-- what is told world by world is one algebra
pub one_algebra : (n : ℕ) (R : ℕ → ℕ → Type 0) (m k : Meaning) → OfWorlds n R m → OfWorlds n R k → m ≡ k
one_algebra n R m k w x =
    let members : (a : ℕ) → m.member a ≡ k.member a = λ a. same_from_decides (m.member a) (k.member a) (w.member_is a) (x.member_is a) in
    let arrows : (a b : ℕ) → m.arrow a b ≡ k.arrow a b =
    λ a b. extent n _ _ (w.arrow_below a b) (x.arrow_below a b) (λ u hu. same_from_decides _ _ (w.arrow_is a b u hu) (x.arrow_is a b u hu)) in
    sets n R m w ∙ (λ i. of_sets n (λ a. members a i) (λ a b. arrows a b i)) ∙ sym (sets n R k x)

-- the same worlds told by another relation
pub told_by : (n : ℕ) (R S : ℕ → ℕ → Type 0) (m : Meaning) → ((u v : ℕ) → u < n → v < n → R u v → S u v) → ((u v : ℕ) → u < n → v < n → S u v → R u v) → OfWorlds n R m → OfWorlds n S m
told_by n R S m to from w = record {
  span_is = w.span_is;
  bottom_is = w.bottom_is;
  top_is = w.top_is;
  member_is = λ a. (
    λ e. (((w.member_is a).0 e).0, λ u v hu hv s. ((w.member_is a).0 e).1 u v hu hv (from u v hu hv s)),
    λ p. (w.member_is a).1 (p.0, λ u v hu hv r. p.1 u v hu hv (to u v hu hv r)),
  );
  meet_is = w.meet_is;
  join_is = w.join_is;
  arrow_below = w.arrow_below;
  arrow_is = λ a b u hu. (
    λ e v hv s. (w.arrow_is a b u hu).0 e v hv (from u v hu hv s),
    λ f. (w.arrow_is a b u hu).1 (λ v hv r. f v hv (to u v hu hv r)),
  );
}
