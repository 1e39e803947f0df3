-- The double negation of a meet, a join and an arrow.
use Rattle.std.proofs.Common.{◌≡◌}
use Rattle.heyting.specs.Meaning.{Meaning, Lawful, Boolean}
use Rattle.heyting.proofs.Lattice.{Elem, ◌⊑◌, bottom, meet, join, arrow, below_refl, below_trans, antisym, meet_left, meet_right, meet_glb, join_left, join_right, bottom_least, curry, apply, weaken}
use Rattle.heyting.proofs.Nuclei.{close, unit, bind, close_closed, join_closed_lub}

module _ {m : Meaning} (l : Lawful m) where
  unfoldable pub twice : Elem m → Elem m
  twice = close l (bottom l)

  pub above_twice : (a : Elem m) → a ⊑ twice a
  unfolding twice
  above_twice a = unit l (bottom l) (below_refl l a)

  pub twice_mono : {a b : Elem m} → a ⊑ b → twice a ⊑ twice b
  unfolding twice
  twice_mono {a} {b} p =
      let e = bottom l in
      bind l e a b (below_refl l (close l e a)) (unit l e (below_trans l (meet_right l (close l e a) a) p))

  -- in a Boolean algebra what lies below a double negation lies below what it negates
  pub below_twice : Boolean m → {x a : Elem m} → x ⊑ twice a → x ⊑ a
  unfolding twice close arrow bottom
  below_twice boolean {x} {a} p = below_trans l p (record { below = boolean a.at a.is })

  pub twice_meet : (a b : Elem m) → (meet l (twice a) (twice b)).at ≡ (twice (meet l a b)).at
  unfolding twice
  twice_meet a b =
      let e = bottom l in
      let x = meet l (close l e a) (close l e b) in
      let y = meet l x a in
      let w = meet l a b in
      antisym l
      (bind l e a w (meet_left l (close l e a) (close l e b))
      (bind l e b w (weaken l a (meet_right l (close l e a) (close l e b)))
      (unit l e (meet_glb l (weaken l b (meet_right l x a)) (meet_right l y b)))))
      (meet_glb l (twice_mono (meet_left l a b)) (twice_mono (meet_right l a b)))

  pub twice_join : (a b : Elem m) → (twice (join l (twice a) (twice b))).at ≡ (twice (join l a b)).at
  unfolding twice
  twice_join a b =
      let e = bottom l in
      let w = join l a b in
      let u = join l (close l e a) (close l e b) in
      antisym l
      (join_closed_lub l e (close_closed l e w) (twice_mono (join_left l a b)) (twice_mono (join_right l a b)))
      (join_closed_lub l e (close_closed l e u)
      (below_trans l (above_twice a) (unit l e (join_left l (close l e a) (close l e b))))
      (below_trans l (above_twice b) (unit l e (join_right l (close l e a) (close l e b)))))

  pub twice_arrow : (a b : Elem m) → (arrow l (twice a) (twice b)).at ≡ (twice (arrow l a b)).at
  unfolding twice close
  twice_arrow a b =
      let e = bottom l in
      let f = arrow l a b in
      let not_f = arrow l f e in
      let g = arrow l (close l e a) (close l e b) in
      let x = meet l g not_f in
      -- where a > b fails, a does not fail and b fails
      let f_fails : x ⊑ not_f = meet_right l g not_f in
      let a_holds : x ⊑ close l e a =
      let not_a = arrow l a e in
      let y = meet l x not_a in
      let f_holds : y ⊑ f = curry l a (below_trans l (apply l (weaken l a (meet_right l x not_a)) (meet_right l y a)) (bottom_least l b)) in
      curry l not_a (apply l (weaken l not_a f_fails) f_holds) in
      let b_fails : x ⊑ arrow l b e = curry l b (apply l (weaken l b f_fails) (curry l a (weaken l a (meet_right l x b)))) in
      let h = close l e f in
      let z = meet l h (close l e a) in
      antisym l
      (curry l not_f (apply l (apply l (meet_left l g not_f) a_holds) b_fails))
      (curry l (close l e a)
      (bind l e a b (meet_right l h (close l e a))
      (bind l e f b (weaken l a (meet_left l h (close l e a)))
      (unit l e (apply l (meet_right l (meet l z a) f) (weaken l f (meet_right l z a)))))))
