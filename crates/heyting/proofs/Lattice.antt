-- The order of a Heyting algebra, on its members: an element is a number with the fact that it is a member.
use Rattle.std.proofs.Common.{◌≡◌, ℕ}
use Rattle.heyting.specs.Meaning.{Meaning, Member, Below, Lawful}

pub record Elem (m : Meaning) : Type 0 where
  pub at : ℕ
  pub is : Member m at

infixl 20 ◌⊑◌
pub record ◌⊑◌ {m : Meaning} (a b : Elem m) : Type 0 where
  pub below : Below m a.at b.at

module _ {m : Meaning} (l : Lawful m) where
  unfoldable pub top : Elem m
  top = record { at = m.top; is = l.top_in }

  unfoldable pub bottom : Elem m
  bottom = record { at = m.bottom; is = l.bottom_in }

  unfoldable pub meet : Elem m → Elem m → Elem m
  meet a b = record { at = m.meet a.at b.at; is = l.meet_in a.at b.at a.is b.is }

  unfoldable pub join : Elem m → Elem m → Elem m
  join a b = record { at = m.join a.at b.at; is = l.join_in a.at b.at a.is b.is }

  unfoldable pub arrow : Elem m → Elem m → Elem m
  arrow a b = record { at = m.arrow a.at b.at; is = l.arrow_in a.at b.at a.is b.is }

  idem : (a : Elem m) → m.meet a.at a.at ≡ a.at
  idem a =
      let n = m.meet a.at a.at in
      let i = l.meet_in a.at a.at a.is a.is in
      let e = l.join_absorbs a.at a.at a.is a.is in
      let f = l.meet_absorbs a.at n a.is i in
      cc

  pub below_refl : (a : Elem m) → a ⊑ a
  below_refl a = record { below = idem a }

  pub below_trans : {a b c : Elem m} → a ⊑ b → b ⊑ c → a ⊑ c
  below_trans {a} {b} {c} p q =
      let e = l.meet_assoc a.at b.at c.at a.is b.is c.is in
      let f = p.below in
      let g = q.below in
      record { below = cc }

  pub antisym : {a b : Elem m} → a ⊑ b → b ⊑ a → a.at ≡ b.at
  antisym {a} {b} p q =
      let e = l.meet_comm a.at b.at a.is b.is in
      let f = p.below in
      let g = q.below in
      cc

  pub meet_left : (a b : Elem m) → meet a b ⊑ a
  unfolding meet
  meet_left a b =
      let e = l.meet_comm a.at b.at a.is b.is in
      let i = l.meet_in a.at b.at a.is b.is in
      let f = l.meet_assoc a.at a.at b.at a.is a.is b.is in
      let g = l.meet_comm (m.meet a.at b.at) a.at i a.is in
      let h = idem a in
      record { below = cc }

  pub meet_right : (a b : Elem m) → meet a b ⊑ b
  unfolding meet
  meet_right a b =
      let f = l.meet_assoc a.at b.at b.at a.is b.is b.is in
      let h = idem b in
      record { below = cc }

  pub meet_glb : {x a b : Elem m} → x ⊑ a → x ⊑ b → x ⊑ meet a b
  unfolding meet
  meet_glb {x} {a} {b} p q =
      let e = l.meet_assoc x.at a.at b.at x.is a.is b.is in
      let f = p.below in
      let g = q.below in
      record { below = cc }

  pub join_left : (a b : Elem m) → a ⊑ join a b
  unfolding join
  join_left a b = record { below = l.meet_absorbs a.at b.at a.is b.is }

  pub join_right : (a b : Elem m) → b ⊑ join a b
  unfolding join
  join_right a b =
      let e = l.join_comm a.at b.at a.is b.is in
      let f = l.meet_absorbs b.at a.at b.is a.is in
      record { below = cc }

  -- a below c: their join is c
  joins : {a c : Elem m} → a ⊑ c → m.join a.at c.at ≡ c.at
  joins {a} {c} p =
      let e = l.join_absorbs c.at a.at c.is a.is in
      let f = p.below in
      let g = l.meet_comm a.at c.at a.is c.is in
      let h = l.join_comm a.at c.at a.is c.is in
      cc

  pub join_lub : {a b c : Elem m} → a ⊑ c → b ⊑ c → join a b ⊑ c
  unfolding join
  join_lub {a} {b} {c} p q =
      let e = joins p in
      let f = joins q in
      let g = l.join_assoc a.at b.at c.at a.is b.is c.is in
      let h = l.meet_absorbs (m.join a.at b.at) c.at (l.join_in a.at b.at a.is b.is) c.is in
      record { below = cc }

  pub bottom_least : (a : Elem m) → bottom ⊑ a
  unfolding bottom
  bottom_least a = record { below = l.bottom_least a.at a.is }

  pub top_greatest : (a : Elem m) → a ⊑ top
  unfolding top
  top_greatest a = record { below = l.top_greatest a.at a.is }

  pub curry : {a c : Elem m} (b : Elem m) → meet a b ⊑ c → a ⊑ arrow b c
  unfolding meet arrow
  curry {a} {c} b p = record { below = (l.residual a.at b.at c.at a.is b.is c.is).0 p.below }

  pub uncurry : {a c : Elem m} (b : Elem m) → a ⊑ arrow b c → meet a b ⊑ c
  unfolding meet arrow
  uncurry {a} {c} b p = record { below = (l.residual a.at b.at c.at a.is b.is c.is).1 p.below }

  -- modus ponens under x
  pub apply : {x a b : Elem m} → x ⊑ arrow a b → x ⊑ a → x ⊑ b
  apply {x} {a} p q = below_trans (meet_glb (below_refl x) q) (uncurry a p)

  -- what lies above x lies above its meet with b
  pub weaken : {x a : Elem m} (b : Elem m) → x ⊑ a → meet x b ⊑ a
  weaken {x} b p = below_trans (meet_left x b) p

  pub below_same : (a b : Elem m) → a.at ≡ b.at → a ⊑ b
  below_same a b p = record { below = rw p (idem b) }

  -- by cases under x
  pub by_cases : {x c : Elem m} (a b : Elem m) → x ⊑ join a b → meet x a ⊑ c → meet x b ⊑ c → x ⊑ c
  by_cases {x} a b p q r =
      let turn = λ (d : Elem m). meet_glb (meet_right d x) (meet_left d x) in
      apply (below_trans p (join_lub (curry x (below_trans (turn a) q)) (curry x (below_trans (turn b) r)))) (below_refl x)
