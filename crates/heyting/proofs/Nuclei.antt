-- The members that a nucleus fixes make a Heyting algebra, and so does the one-member algebra.
use Rattle.std.proofs.Common.{◌≡◌, ℕ, Bool, true, false, cond, eqb, sym, refl, ap, ◌∙◌, arith, eq-eqb, eqb-true}
use Rattle.std.proofs.lemmas.Bool.{and_parts, and_from}
use Rattle.heyting.specs.Meaning.{Meaning, Member, Lawful}
use Rattle.heyting.specs.Layers.{closure, fixed, nucleus, regular, single}
use Rattle.heyting.proofs.Lattice.{Elem, ◌⊑◌, top, bottom, meet, join, arrow, below_refl, below_trans, antisym, meet_left, meet_right, meet_glb, join_left, join_right, join_lub, bottom_least, top_greatest, curry, apply, weaken, below_same}

module _ {m : Meaning} (l : Lawful m) (e : Elem m) where
  unfoldable pub close : Elem m → Elem m
  unfolding arrow
  close a = arrow l (arrow l a e) e

  pub unit : {x a : Elem m} → x ⊑ a → x ⊑ close a
  unfolding close
  unit {x} {a} p = curry l (arrow l a e) (apply l (meet_right l x (arrow l a e)) (weaken l (arrow l a e) p))

  -- to come below a closed element, a closed premise may be opened
  pub bind : {x : Elem m} (a b : Elem m) → x ⊑ close a → meet l x a ⊑ close b → x ⊑ close b
  unfolding close
  bind {x} a b p q =
      let y = meet l x (arrow l b e) in
      let b_fails : meet l y a ⊑ arrow l b e = weaken l a (meet_right l x (arrow l b e)) in
      let b_holds : meet l y a ⊑ close b =
      below_trans l (meet_glb l (weaken l a (meet_left l x (arrow l b e))) (meet_right l y a)) q in
      curry l (arrow l b e) (apply l (weaken l (arrow l b e) p) (curry l a (apply l b_holds b_fails)))

  -- the elements that are their own closure
  abbrev pub Closed : Elem m → Type 0
  Closed a = close a ⊑ a

  pub into_closed : {x b : Elem m} (a : Elem m) → Closed b → x ⊑ close a → meet l x a ⊑ b → x ⊑ b
  into_closed {b = b} a c p q = below_trans l (bind a b p (unit q)) c

  pub close_closed : (a : Elem m) → Closed (close a)
  close_closed a = bind (close a) a (below_refl l (close (close a))) (meet_right l (close (close a)) (close a))

  pub meet_closed : {a b : Elem m} → Closed a → Closed b → Closed (meet l a b)
  meet_closed {a} {b} p q =
      let x = close (meet l a b) in
      let here : meet l x (meet l a b) ⊑ meet l a b = meet_right l x (meet l a b) in
      meet_glb l
      (into_closed (meet l a b) p (below_refl l x) (below_trans l here (meet_left l a b)))
      (into_closed (meet l a b) q (below_refl l x) (below_trans l here (meet_right l a b)))

  pub arrow_closed : (a : Elem m) {b : Elem m} → Closed b → Closed (arrow l a b)
  arrow_closed a {b} q =
      let f = arrow l a b in
      let x = meet l (close f) a in
      curry l a
      (into_closed f q (meet_left l (close f) a) (apply l (meet_right l x f) (weaken l f (meet_right l (close f) a))))

  pub join_closed_lub : {a b c : Elem m} → Closed c → a ⊑ c → b ⊑ c → close (join l a b) ⊑ c
  join_closed_lub {a} {b} r p q =
      let j = join l a b in
      into_closed j r (below_refl l (close j)) (below_trans l (meet_right l (close j) j) (join_lub l p q))

  pub bottom_closed_least : {a : Elem m} → Closed a → close (bottom l) ⊑ a
  bottom_closed_least {a} r =
      let o = close (bottom l) in
      into_closed (bottom l) r (below_refl l o) (below_trans l (meet_right l o (bottom l)) (bottom_least l a))

  closed_is : {a : Elem m} → Closed a → (close a).at ≡ a.at
  closed_is {a} p = antisym l p (unit (below_refl l a))

  pub in_fixed : {a : Elem m} → Closed a → Member (fixed m e.at) a.at
  unfolding close arrow
  in_fixed {a} p = and_from _ _ a.is (eq-eqb _ _ (closed_is p))

  -- a member of the layer, below
  under : (a : ℕ) → Member (fixed m e.at) a → Elem m
  under a h = record { at = a; is = (and_parts (m.member a) (eqb (closure m e.at a) a) h).0 }

  under_closed : (a : ℕ) (h : Member (fixed m e.at) a) → Closed (under a h)
  unfolding under close arrow
  under_closed a h =
      below_same l (close (under a h)) (under a h) (eqb-true _ _ (and_parts (m.member a) (eqb (closure m e.at a) a) h).1)

  join_assoc : (a b c : Elem m) → (close (join l (close (join l a b)) c)).at ≡ (close (join l a (close (join l b c)))).at
  join_assoc a b c =
      let ab = join l a b in
      let bc = join l b c in
      let left = close (join l (close ab) c) in
      let right = close (join l a (close bc)) in
      let left_closed = close_closed (join l (close ab) c) in
      let right_closed = close_closed (join l a (close bc)) in
      let bc_right : close bc ⊑ right = unit (join_right l a (close bc)) in
      let ab_left : close ab ⊑ left = unit (join_left l (close ab) c) in
      antisym l
      (join_closed_lub right_closed
      (join_closed_lub right_closed (unit (join_left l a (close bc))) (below_trans l (unit (join_left l b c)) bc_right))
      (below_trans l (unit (join_right l b c)) bc_right))
      (join_closed_lub left_closed
      (below_trans l (unit (join_left l a b)) ab_left)
      (join_closed_lub left_closed (below_trans l (unit (join_right l a b)) ab_left) (unit (join_right l (close ab) c))))

  pub fixed_lawful : Lawful (fixed m e.at)
  unfolding close arrow meet join bottom top under
  fixed_lawful = record {
    span_low = l.span_low;
    span_high = l.span_high;
    inside = λ a p. l.inside a (under a p).is;
    bottom_in = in_fixed (close_closed (bottom l));
    top_in = in_fixed (top_greatest l (close (top l)));
    meet_in = λ a b p q. in_fixed (meet_closed (under_closed a p) (under_closed b q));
    join_in = λ a b p q. in_fixed (close_closed (join l (under a p) (under b q)));
    arrow_in = λ a b p q. in_fixed (arrow_closed (under a p) (under_closed b q));
    meet_comm = λ a b p q. l.meet_comm a b (under a p).is (under b q).is;
    join_comm = λ a b p q. ap (closure m e.at) (l.join_comm a b (under a p).is (under b q).is);
    meet_assoc = λ a b c p q r. l.meet_assoc a b c (under a p).is (under b q).is (under c r).is;
    join_assoc = λ a b c p q r. join_assoc (under a p) (under b q) (under c r);
    meet_absorbs = λ a b p q. (unit (join_left l (under a p) (under b q))).below;
    join_absorbs = λ a b p q.
        ap (closure m e.at) (l.join_absorbs a b (under a p).is (under b q).is) ∙ closed_is (under_closed a p);
    bottom_least = λ a p. (bottom_closed_least (under_closed a p)).below;
    top_greatest = λ a p. l.top_greatest a (under a p).is;
    residual = λ a b c p q r. l.residual a b c (under a p).is (under b q).is (under c r).is;
  }

pub single_lawful : Lawful single
single_lawful = record {
  span_low = omega arith;
  span_high = omega arith;
  inside = λ a h. omega (arith, eqb-true a 0 h);
  bottom_in = refl;
  top_in = refl;
  meet_in = λ a b ha hb. refl;
  join_in = λ a b ha hb. refl;
  arrow_in = λ a b ha hb. refl;
  meet_comm = λ a b ha hb. refl;
  meet_assoc = λ a b c ha hb hc. refl;
  join_comm = λ a b ha hb. refl;
  join_assoc = λ a b c ha hb hc. refl;
  meet_absorbs = λ a b ha hb. sym (eqb-true a 0 ha);
  join_absorbs = λ a b ha hb. sym (eqb-true a 0 ha);
  bottom_least = λ a ha. refl;
  top_greatest = λ a ha. sym (eqb-true a 0 ha);
  residual = λ a b c ha hb hc. (λ _. sym (eqb-true a 0 ha), λ _. refl);
}

pub nucleus_lawful : (m : Meaning) → Lawful m → (e : ℕ) → Lawful (nucleus m e)
nucleus_lawful m l e = go (m.member e) refl
  where
    go : (b : Bool) → m.member e ≡ b → Lawful (cond b (fixed m e) single)
    go true h = fixed_lawful l (record { at = e; is = h })
    go false h = single_lawful

pub regular_lawful : (m : Meaning) → Lawful m → Lawful (regular m)
regular_lawful m l = nucleus_lawful m l m.bottom
