-- What records stand for as they grow.
use Rattle.std.proofs.Common.{◌≡◌, ℕ, ◌+◌, ◌<◌, ◌≤◌, true, false, ltb, List, [], ◌∷◌, ◌++◌, length, get_or, take, drop, set, sym, refl, ap, ◌∙◌, subst, ⊎_elim, append_assoc, append-nil, arith, length-append, take-append-drop}
use Rattle.std.proofs.lemmas.List.{get_or_append_left, get_or_push, get_or_at, get_or-take, take_at, take_more_set, length_push, length-take-le, drop_more}
use Rattle.std.proofs.lemmas.Bool.{ltb-true, lt-ltb, and_parts, and_from, cases_lt, cond-true, cond-false}
use Rattle.grammar.specs.Formula.{Formula}
use Rattle.grammar.specs.Formula.Formula.{falsum, joined}
use Rattle.grammar.specs.Contents.{formula_at, holds, added, Fitting, Base, Once, AllFitting}
use Rattle.grammar.specs.Records.{meaning, formulas_after, formulas, parts_below, Founded, OneMaking}
use Rattle.grammar.specs.declared.node.Node.{Node}
use Rattle.grammar.specs.declared.node.Node.TheVariants.{Falsum, Letter, Joined}
use Rattle.grammar.proofs.Adding.{added_base, added_once, added_fitting}
use Rattle.grammar.proofs.Sameness.{holds_at, not_holds, one_place}

length_after : (fs : List Formula) (ns : List Node) → length (formulas_after fs ns) ≡ length fs + length ns
length_after fs [] = omega arith
length_after fs (n ∷ ns) = omega (arith, length_after (fs ++ meaning fs n ∷ []) ns, length-append fs (meaning fs n ∷ []))

pub length_formulas : (ns : List Node) → length (formulas ns) ≡ length ns
length_formulas ns = omega (arith, length_after [] ns)

after_append : (fs : List Formula) (ns ms : List Node) → formulas_after fs (ns ++ ms) ≡ formulas_after (formulas_after fs ns) ms
after_append fs [] ms = refl
after_append fs (n ∷ ns) ms = after_append (fs ++ meaning fs n ∷ []) ns ms

formulas_push : (ns : List Node) (n : Node) → formulas (ns ++ n ∷ []) ≡ formulas ns ++ meaning (formulas ns) n ∷ []
formulas_push ns n = after_append [] ns (n ∷ [])

front : (fs : List Formula) (ns : List Node) → (more : List Formula) × (formulas_after fs ns ≡ fs ++ more)
front fs [] = ([], sym (append-nil fs))
front fs (n ∷ ns) = let w = front (fs ++ meaning fs n ∷ []) ns in (meaning fs n ∷ w.0, w.1 ∙ append_assoc fs (meaning fs n ∷ []) w.0)

-- the formula at a place, from its record and the formulas below
record Here (ns : List Node) (i : ℕ) : Type 0 where
  below : formulas (take i ns) ≡ take i (formulas ns)
  here : formula_at (formulas ns) i ≡ meaning (formulas (take i ns)) (get_or ns i Falsum)

at_place : (ns : List Node) (i : ℕ) → i < length ns → Here ns i
at_place ns i h =
    let fs = formulas (take i ns) in
    let n = get_or ns i Falsum in
    let w = front (fs ++ meaning fs n ∷ []) (drop (i + 1) ns) in
    let l : length fs ≡ i = length_formulas (take i ns) ∙ length-take-le i ns (omega arith) in
    let e : formulas ns ≡ fs ++ (meaning fs n ∷ w.0) =
    ap formulas (sym (take-append-drop i ns) ∙ ap (λ l. take i ns ++ l) (drop_more ns i Falsum h))
    ∙ after_append [] (take i ns) (n ∷ drop (i + 1) ns) ∙ w.1 ∙ append_assoc fs (meaning fs n ∷ []) w.0 in
    record {
      below = sym (ap (take i) e ∙ take_at fs _ i l);
      here = ap (λ l. formula_at l i) e ∙ get_or_at fs _ _ falsum i l;
    }

below_meaning : (fs : List Formula) (i : ℕ) (n : Node) → parts_below i n ≡ true → meaning (take i fs) n ≡ meaning fs n
below_meaning fs i Falsum e = refl
below_meaning fs i (Letter c) e = refl
below_meaning fs i (Joined k a b) e =
    let p = and_parts (ltb a i) (ltb b i) e in
    let x = get_or-take i fs a falsum (ltb-true a i p.0) in
    let y = get_or-take i fs b falsum (ltb-true b i p.1) in
    λ j. joined k (x j) (y j)

below_more : (i j : ℕ) (n : Node) → i ≤ j → parts_below i n ≡ true → parts_below j n ≡ true
below_more i j Falsum h e = refl
below_more i j (Letter c) h e = refl
below_more i j (Joined k a b) h e =
    let p = and_parts (ltb a i) (ltb b i) e in
    and_from _ _ (lt-ltb a j (omega (arith, ltb-true a i p.0))) (lt-ltb b j (omega (arith, ltb-true b i p.1)))

-- records whose parts are stored stand for one formula only if they are the same
module _ (fs : List Formula) (once : Once fs) where
  one_part : (i j : ℕ) → ltb i (length fs) ≡ true → ltb j (length fs) ≡ true → formula_at fs i ≡ formula_at fs j → i ≡ j
  one_part i j a b e = one_place fs once i j (ltb-true i (length fs) a) (ltb-true j (length fs) b) e

  one_record : (n m : Node) → parts_below (length fs) n ≡ true → parts_below (length fs) m ≡ true → meaning fs n ≡ meaning fs m → n ≡ m
  one_record Falsum Falsum a b e = refl
  one_record Falsum (Letter d) a b e = absurd (let z : ◌≡◌ {A = ℕ} 0 1 = cc in omega arith)
  one_record Falsum (Joined k' i' j') a b e = absurd (let z : ◌≡◌ {A = ℕ} 0 1 = cc in omega arith)
  one_record (Letter c) Falsum a b e = absurd (let z : ◌≡◌ {A = ℕ} 0 1 = cc in omega arith)
  one_record (Letter c) (Letter d) a b e = let z : c ≡ d = cc in ap Letter z
  one_record (Letter c) (Joined k' i' j') a b e = absurd (let z : ◌≡◌ {A = ℕ} 0 1 = cc in omega arith)
  one_record (Joined k i j) Falsum a b e = absurd (let z : ◌≡◌ {A = ℕ} 0 1 = cc in omega arith)
  one_record (Joined k i j) (Letter d) a b e = absurd (let z : ◌≡◌ {A = ℕ} 0 1 = cc in omega arith)
  one_record (Joined k i j) (Joined k' i' j') a b e =
      let p = and_parts (ltb i (length fs)) (ltb j (length fs)) a in
      let q = and_parts (ltb i' (length fs)) (ltb j' (length fs)) b in
      let x : k ≡ k' = cc in
      let y : formula_at fs i ≡ formula_at fs i' = cc in
      let z : formula_at fs j ≡ formula_at fs j' = cc in
      let u = one_part i i' p.0 q.0 y in
      let v = one_part j j' p.1 q.1 z in
      λ t. Joined (x t) (u t) (v t)

pub one_making : OneMaking
one_making fs p n m once a b =
    one_record fs once n m (below_more p _ n (omega (arith, a.stored)) a.below) (below_more p _ m (omega (arith, a.stored)) b.below) (sym a.formula ∙ b.formula)

-- what is true of a store's records
pub record Good (ns : List Node) : Type 0 where
  pub founded : Founded ns
  pub base : Base (formulas ns)
  pub once : Once (formulas ns)
  pub fitting : AllFitting (formulas ns)

module _ (ns : List Node) (good : Good ns) where
  pub at_meaning : (i : ℕ) → i < length ns → formula_at (formulas ns) i ≡ meaning (formulas ns) (get_or ns i Falsum)
  at_meaning i h =
      let w = at_place ns i h in
      w.here ∙ ap (λ l. meaning l (get_or ns i Falsum)) w.below ∙ below_meaning (formulas ns) i _ (good.founded i h)

  -- a record that is there
  pub found_held : (n : Node) (p : ℕ) → p < length ns → get_or ns p Falsum ≡ n → formula_at (formulas ns) p ≡ meaning (formulas ns) n
  found_held n p h e = at_meaning p h ∙ ap (meaning (formulas ns)) e

  pub found_added : (n : Node) (p : ℕ) → p < length ns → get_or ns p Falsum ≡ n → formulas ns ≡ added (formulas ns) (meaning (formulas ns) n)
  found_added n p h e = sym (cond-true _ _ _ (holds_at (formulas ns) _ p (omega (arith, length_formulas ns)) (found_held n p h e)))

  -- a record that is missing
  module _ (n : Node) (low : parts_below (length ns) n ≡ true) (missing : (k : ℕ) → k < length ns → get_or ns k Falsum ≡ n → ⊥) where
    new : holds (formulas ns) (meaning (formulas ns) n) ≡ false
    new = not_holds _ _ (λ p h e.
        let h' : p < length ns = omega (arith, length_formulas ns) in
        missing p h' (one_record (formulas ns) good.once _ n (below_more p _ _ (omega arith) (good.founded p h')) (below_more (length ns) _ n (omega (arith, length_formulas ns)) low) (sym (at_meaning p h') ∙ e)))

    pub more_added : formulas (ns ++ n ∷ []) ≡ added (formulas ns) (meaning (formulas ns) n)
    more_added = formulas_push ns n ∙ sym (cond-false _ _ _ new)

    pub more_at : formula_at (formulas (ns ++ n ∷ [])) (length ns) ≡ meaning (formulas ns) n
    more_at = ap (λ l. formula_at l (length ns)) (formulas_push ns n) ∙ get_or_push (formulas ns) _ falsum (length ns) (length_formulas ns)

    more_founded : Founded (ns ++ n ∷ [])
    more_founded i h =
        ⊎_elim (λ l. ap (parts_below i) (get_or_append_left ns _ Falsum i l) ∙ good.founded i l)
        (λ l. let e : length ns ≡ i = omega (arith, length_push ns n) in subst (λ j. parts_below j (get_or (ns ++ n ∷ []) j Falsum) ≡ true) e (ap (parts_below (length ns)) (get_or_push ns n Falsum _ refl) ∙ low))
        (cases_lt i (length ns))

    pub more_good : Fitting (meaning (formulas ns) n) → Good (ns ++ n ∷ [])
    more_good fit = record {
      founded = more_founded;
      base = subst Base (sym more_added) (added_base _ _ good.base);
      once = subst Once (sym more_added) (added_once _ _ good.once);
      fitting = subst AllFitting (sym more_added) (added_fitting _ _ good.fitting fit);
    }

-- the first records of a longer list
module _ (all : List Node) (used : ℕ) (within : used ≤ length all) where
  pub length_used : length (take used all) ≡ used
  length_used = length-take-le used all within

  pub count_used : length (formulas (take used all)) ≡ used
  count_used = length_formulas (take used all) ∙ length_used

  pub record_used : (p : ℕ) → p < used → get_or (take used all) p Falsum ≡ get_or all p Falsum
  record_used p h = get_or-take used all p Falsum h

  module _ (good : Good (take used all)) where
    pub used_meaning : (p : ℕ) → p < used → formula_at (formulas (take used all)) p ≡ meaning (formulas (take used all)) (get_or all p Falsum)
    used_meaning p h = at_meaning (take used all) good p (omega (arith, length_used)) ∙ ap (meaning (formulas (take used all))) (record_used p h)

    pub used_founded : (p : ℕ) → p < used → parts_below p (get_or all p Falsum) ≡ true
    used_founded p h = sym (ap (parts_below p) (record_used p h)) ∙ good.founded p (omega (arith, length_used))

    module _ (n : Node) where
      -- a record that is found
      module _ (p : ℕ) (h : p < used) (e : get_or all p Falsum ≡ n) where
        pub found_contents : formulas (take used all) ≡ added (formulas (take used all)) (meaning (formulas (take used all)) n)
        found_contents = found_added (take used all) good n p (omega (arith, length_used)) (record_used p h ∙ e)

        pub found_place : formula_at (formulas (take used all)) p ≡ meaning (formulas (take used all)) n
        found_place = used_meaning p h ∙ ap (meaning (formulas (take used all))) e

      -- a record that is written behind them
      module _ (room : used < length all) (low : parts_below used n ≡ true) (missing : (k : ℕ) → k < used → get_or all k Falsum ≡ n → ⊥) where
        abbrev more : List Node
        more = take (used + 1) (set all used n)

        grown : take used all ++ n ∷ [] ≡ more
        grown = sym (take_more_set all used n room)

        low' : parts_below (length (take used all)) n ≡ true
        low' = subst (λ l. parts_below l n ≡ true) (sym length_used) low

        missing' : (k : ℕ) → k < length (take used all) → get_or (take used all) k Falsum ≡ n → ⊥
        missing' k h e = let h' : k < used = omega (arith, length_used) in missing k h' (sym (record_used k h') ∙ e)

        pub more_contents : formulas more ≡ added (formulas (take used all)) (meaning (formulas (take used all)) n)
        more_contents = ap formulas (sym grown) ∙ more_added (take used all) good n low' missing'

        pub more_place : formula_at (formulas more) used ≡ meaning (formulas (take used all)) n
        more_place =
            let e : formula_at (formulas (take used all ++ n ∷ [])) (length (take used all)) ≡ meaning (formulas (take used all)) n = more_at (take used all) good n low' missing' in
            subst (λ p. formula_at (formulas more) p ≡ meaning (formulas (take used all)) n) length_used (ap (λ l. formula_at (formulas l) (length (take used all))) (sym grown) ∙ e)

        pub more_long : length (formulas more) ≡ used + 1
        more_long = length_formulas more ∙ sym (ap length grown) ∙ length_push (take used all) n ∙ ap (λ k. k + 1) length_used

        pub more_is_good : Fitting (meaning (formulas (take used all)) n) → Good more
        more_is_good fit = subst Good grown (more_good (take used all) good n low' missing' fit)
