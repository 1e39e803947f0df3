-- The rules are sound in every algebra that suits a mode: what lies below all that is in force at a line lies below the line.
use Rattle.std.proofs.Common.{◌≡◌, ℕ, zero, suc, ◌⊎◌, List, [], ◌∷◌, ◌++◌, map, Some, sym, refl, subst, inl, inr, ⊎_elim, arith}
use mathlib.Core.List.Memᴰ
use mathlib.Core.List.{Memᴰ}
use Rattle.std.specs.List.{AllByRecursion as All}
use Rattle.std.proofs.ByRecursion.{All-push, All-weaker}
use Rattle.grammar.specs.Formula.{Formula, negation as not_formula}
use Rattle.heyting.specs.Meaning.{Meaning, Lawful, Boolean}
use Rattle.heyting.specs.Values.{ByMembers}
use Rattle.heyting.proofs.Doubles.{twice, below_twice}
use Rattle.heyting.proofs.Lattice.{Elem, ◌⊑◌, bottom, meet, join, arrow, below_trans, meet_left, meet_right, meet_glb, join_left, join_right, bottom_least, curry, apply, weaken, by_cases}
use Rattle.heyting.proofs.Meets.{worth}
use Rattle.heyting.proofs.Nuclei.{close}
use Rattle.fitch.specs.History.{premise, begin, assume, step, close as close_box, History, Box, Line, count, boxes, lines, premises, line_at, in_force, Open, Reads, Shows, CitesAll, Permits, Written}
use Rattle.fitch.specs.Rules.{Cited, line, box, Fits, Serves}
use Rattle.fitch.specs.declared.mode.Mode.{Mode}
use Rattle.fitch.specs.declared.mode.Mode.TheVariants.{Constructive, Classical}
use Rattle.fitch.specs.declared.rule.Rule.{Rule}
use Rattle.fitch.specs.declared.rule.Rule.TheVariants.{Reiterate, AndIntro, AndLeft, AndRight, OrLeft, OrRight, OrElim, ImpIntro, ImpElim, ExFalso, Reductio}
use Rattle.fitch.proofs.Nesting.{all_nth}

-- which formulas are in force

abbrev assumptions : List Box → List Formula
assumptions bs = map (λ b. b.assumes) bs

-- what is in force at a line that is reachable is in force at the next line
still_in_force : (h : History) (bs : List Box) → Open h bs → (A : Formula) → Memᴰ A (premises h ++ assumptions bs) → Memᴰ A (premises h ++ assumptions (boxes h))
still_in_force h bs opened A p =
    ⊎_elim (Memᴰ.append_left (assumptions (boxes h)))
    (λ q. let b = Memᴰ.of_map (λ b. b.assumes) bs q in Memᴰ.append_right (premises h) (Memᴰ.cast (sym b.2) (Memᴰ.map (λ b. b.assumes) (opened b.0 b.1))))
    (Memᴰ.append_cases (premises h) p)

-- in a box its assumption is in force, and what is in force around it
in_box : (As Bs : List Formula) (A B : Formula) → Memᴰ B (As ++ A ∷ Bs) → (B ≡ A) ⊎ Memᴰ B (As ++ Bs)
in_box As Bs A B p = ⊎_elim (λ q. inr (Memᴰ.append_left Bs q)) (λ q. ⊎_elim inl (λ r. inr (Memᴰ.append_right As r)) (Memᴰ.cases_cons q)) (Memᴰ.append_cases As p)

-- one more premise takes nothing out of force
with_premise : (As Bs : List Formula) (A B : Formula) → Memᴰ B (As ++ Bs) → Memᴰ B ((As ++ A ∷ []) ++ Bs)
with_premise As Bs A B p = ⊎_elim (λ q. Memᴰ.append_left Bs (Memᴰ.append_left (A ∷ []) q)) (Memᴰ.append_right (As ++ A ∷ [])) (Memᴰ.append_cases As p)

-- the algebras that suit a mode: classically the Boolean ones
abbrev pub Suits : Mode → Meaning → Type 0
Suits mode m = mode ≡ Classical → Boolean m

classical : (mode : Mode) → Serves mode Reductio → mode ≡ Classical
classical Constructive s = absurd s
classical Classical s = refl

module _ (mode : Mode) {m : Meaning} (l : Lawful m) (suits : Suits mode m) (v : List ℕ) (members : ByMembers m v) where
  abbrev val : Formula → Elem m
  val A = worth m l v members A

  -- x lies below each of As
  abbrev pub Under : Elem m → List Formula → Type 0
  Under x As = (A : Formula) → Memᴰ A As → x ⊑ val A

  -- what lies below all that is in force at a line lies below the line
  abbrev pub Holds : History → Line → Type 0
  Holds h y = (x : Elem m) → Under x (in_force h y) → x ⊑ val y.formula

  -- x lies below all that is in force at the next line
  abbrev Now : History → Elem m → Type 0
  Now h x = Under x (premises h ++ assumptions (boxes h))

  stands : (h : History) (i : ℕ) (y : Line) → All (Holds h) (lines h) → line_at h i ≡ Some y → Holds h y
  stands h zero y g e = let z : ◌≡◌ {A = ℕ} 0 1 = cc in absurd (omega arith)
  stands h (suc k) y g e = all_nth (Holds h) (lines h) k y g e

  -- a line that is cited holds
  reads : {h : History} {i : ℕ} {A : Formula} → All (Holds h) (lines h) → Reads h i A → (x : Elem m) → Now h x → x ⊑ val A
  reads {h} {i} {A} g r x n = stands h i (record { formula = A; inside = r.inside }) g r.stands x (λ B p. n B (still_in_force h r.inside r.reachable B p))

  -- the end of a box that is cited holds under its assumption
  shows : {h : History} {b : ℕ} {A C : Formula} → All (Holds h) (lines h) → Shows h b A C → (x : Elem m) → Now h x → meet l x (val A) ⊑ val C
  shows {h} {b} {A} {C} g r x n =
      let here : Box = record { first = b; assumes = A } in
      let around = assumptions r.around in
      stands h r.end (record { formula = C; inside = here ∷ r.around }) g r.last (meet l x (val A))
      (λ B p. ⊎_elim
      (λ e. subst (λ F. meet l x (val A) ⊑ val F) (sym e) (meet_right l x (val A)))
      (λ q. weaken l (val A) (n B (still_in_force h r.around r.reachable B q)))
      (in_box (premises h) around A B p))

  -- what a citation says below x
  Says : Elem m → Cited → Type 0
  Says x (line A) = x ⊑ val A
  Says x (box A C) = meet l x (val A) ⊑ val C

  cited_hold : (h : History) (is : List ℕ) (cs : List Cited) → All (Holds h) (lines h) → CitesAll h is cs → (x : Elem m) → Now h x → All (Says x) cs
  unfolding Says
  cited_hold h [] [] g p x n = tt
  cited_hold h [] (c ∷ cs) g p x n = absurd p
  cited_hold h (i ∷ is) [] g p x n = absurd p
  cited_hold h (i ∷ is) (line A ∷ cs) g p x n = (reads g p.0 x n, cited_hold h is cs g p.1 x n)
  cited_hold h (i ∷ is) (box A C ∷ cs) g p x n = (shows g p.0 x n, cited_hold h is cs g p.1 x n)

  -- what follows by a rule from what holds, holds
  fitting : (r : Rule) (F : Formula) (cs : List Cited) → Serves mode r → Fits r F cs → (x : Elem m) → All (Says x) cs → x ⊑ val F
  unfolding Says meet join arrow bottom twice close
  fitting Reiterate F cs s f x q = (subst (All (Says x)) f q).0
  fitting AndIntro F cs s f x q =
      let p = subst (All (Says x)) f.3 q in
      subst (λ A. x ⊑ val A) (sym f.2) (record { below = (meet_glb l p.0 p.1.0).below })
  fitting AndLeft F cs s f x q =
      below_trans l (subst (All (Says x)) f.1 q).0 (record { below = (meet_left l (val F) (val f.0)).below })
  fitting AndRight F cs s f x q =
      below_trans l (subst (All (Says x)) f.1 q).0 (record { below = (meet_right l (val f.0) (val F)).below })
  fitting OrLeft F cs s f x q =
      let p = subst (All (Says x)) f.3 q in
      subst (λ A. x ⊑ val A) (sym f.2) (below_trans l p.0 (record { below = (join_left l (val f.0) (val f.1)).below }))
  fitting OrRight F cs s f x q =
      let p = subst (All (Says x)) f.3 q in
      subst (λ A. x ⊑ val A) (sym f.2) (below_trans l p.0 (record { below = (join_right l (val f.0) (val f.1)).below }))
  fitting OrElim F cs s f x q =
      let p = subst (All (Says x)) f.2 q in
      by_cases l (val f.0) (val f.1) (record { below = p.0.below }) p.1.0 p.1.1.0
  fitting ImpIntro F cs s f x q =
      let p = subst (All (Says x)) f.3 q in
      subst (λ A. x ⊑ val A) (sym f.2) (record { below = (curry l (val f.0) p.0).below })
  fitting ImpElim F cs s f x q =
      let p = subst (All (Says x)) f.1 q in
      apply l {a = val f.0} (record { below = p.0.below }) p.1.0
  fitting ExFalso F cs s f x q =
      below_trans l (subst (All (Says x)) f q).0 (record { below = (bottom_least l (val F)).below })
  fitting Reductio F cs s f x q =
      let refuted : meet l x (val (not_formula F)) ⊑ bottom l = record { below = (subst (All (Says x)) f q).0.below } in
      below_twice l (suits (classical mode s)) {a = val F} (record { below = (curry l (val (not_formula F)) refuted).below })

  permits : {h : History} {A : Formula} {r : Rule} {is : List ℕ} → All (Holds h) (lines h) → Permits mode h A r is → (x : Elem m) → Now h x → x ⊑ val A
  permits {h} {A} {r} {is} g p x n = fitting r A p.cited p.serves p.fits x (cited_hold h is p.cited g p.cites x n)

  lines_hold : (h : History) → Written mode h → All (Holds h) (lines h)
  lines_hold [] w = tt
  lines_hold (premise A ∷ h) w =
      All-push (Holds (premise A ∷ h)) (lines h) (record { formula = A; inside = boxes h })
      (All-weaker (Holds h) (Holds (premise A ∷ h)) (λ y g x p. g x (λ B q. p B (with_premise (premises h) (assumptions y.inside) A B q))) (lines h) (lines_hold h w.1))
      (λ x p. p A (Memᴰ.append_left (assumptions (boxes h)) (Memᴰ.append_right (premises h) (Memᴰ.head refl))))
  lines_hold (begin ∷ h) w = lines_hold h w.1
  lines_hold (assume A ∷ h) w =
      All-push (Holds h) (lines h) (record { formula = A; inside = record { first = suc (count h); assumes = A } ∷ boxes h }) (lines_hold h w.1)
      (λ x p. p A (Memᴰ.append_right (premises h) (Memᴰ.head refl)))
  lines_hold (step A r is ∷ h) w =
      All-push (Holds h) (lines h) (record { formula = A; inside = boxes h }) (lines_hold h w.1) (permits (lines_hold h w.1) w.0.1)
  lines_hold (close_box ∷ h) w = lines_hold h w.1

  pub line_holds : (h : History) → Written mode h → (i : ℕ) (y : Line) → line_at h i ≡ Some y → Holds h y
  line_holds h w i y e = stands h i y (lines_hold h w) e
