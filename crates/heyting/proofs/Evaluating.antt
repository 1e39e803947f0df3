-- How a buffer fills with the values of formulas.
use Rattle.std.proofs.Common.{◌≡◌, ℕ, ◌+◌, ◌<◌, ◌≤◌, true, ltb, leb, List, [], ◌∷◌, ◌++◌, map, length, get_or, take, set, sym, refl, ap, ◌∙◌, subst, ap₂, arith}
use Rattle.std.proofs.lemmas.List.{get_or_append_left, get_or-take, get_or-map, length-map, length-take-le, take_all, take_more}
use Rattle.std.proofs.lemmas.Bool.{and_parts, leb-true, ltb-true}
use Rattle.grammar.specs.Contents.{formula_at, lettered, AllFitting}
use Rattle.grammar.specs.Formula.{Formula}
use Rattle.grammar.specs.Formula.Formula.{falsum}
use Rattle.grammar.specs.Records.{MadeOf}
use Rattle.grammar.specs.Writing.{put}
use Rattle.grammar.specs.declared.connective.Connective.{Connective}
use Rattle.grammar.specs.declared.node.Node.{Node}
use Rattle.grammar.specs.declared.node.Node.TheVariants.{Falsum, Letter, Joined}
use Rattle.grammar.proofs.Buffers.{put_byte, length_put}
use Rattle.heyting.specs.Evaluating.{worth, Ready}
use Rattle.heyting.specs.Meaning.{Meaning, Member, Lawful}
use Rattle.heyting.specs.Values.{operation, value, ByMembers}
use Rattle.heyting.proofs.Values.{value_in}

-- a buffer in which the values of the first p formulas are written
abbrev pub filled : Meaning → List ℕ → List Formula → List ℕ → ℕ → List ℕ
filled m v fs before p = put before 0 (take p (map (value m v) fs))

module _ (m : Meaning) (v : List ℕ) (fs : List Formula) (before : List ℕ) (room : length fs ≤ length before) where
  abbrev values : List ℕ
  values = map (value m v) fs

  length_values : length values ≡ length fs
  length_values = length-map fs (value m v)

  length_front : (p : ℕ) → p ≤ length fs → length (take p values) ≡ p
  length_front p h = length-take-le p values (omega (arith, length_values))

  pub length_filled : (p : ℕ) → p ≤ length fs → length (filled m v fs before p) ≡ length before
  length_filled p h = length_put before 0 (take p values) (omega (arith, length_front p h))

  filled_more : (p x : ℕ) → p < length fs → x ≡ value m v (formula_at fs p) → set (filled m v fs before p) p x ≡ filled m v fs before (p + 1)
  filled_more p x h e =
      let long = length_front p (omega arith) in
      put_byte before 0 (omega arith) (filled m v fs before p) (take p values) p refl (omega arith) x (omega (arith, length_filled p (omega arith)))
      ∙ ap (put before 0) (ap (λ y. take p values ++ y ∷ []) (e ∙ sym (get_or-map (value m v) fs p falsum 0 h)) ∙ sym (take_more values p 0 (omega (arith, length_values))))

  pub filled_all : filled m v fs before (length fs) ≡ put before 0 values
  filled_all = ap (put before 0) (take_all (length fs) values (omega (arith, length_values)))

  pub filled_at : (p k : ℕ) → p ≤ length fs → k < p → get_or (filled m v fs before p) k 0 ≡ value m v (formula_at fs k)
  filled_at p k h l =
      get_or_append_left (take p values) _ 0 k (omega (arith, length_front p h))
      ∙ get_or-take p values k 0 l ∙ get_or-map (value m v) fs k falsum 0 (omega arith)

  -- what the formula at the next place is worth
  module _ (p : ℕ) where
    parts : (k : Connective) (i j : ℕ) → MadeOf fs p (Joined k i j) → (i < p) × (j < p)
    parts k i j made = let b = and_parts (ltb i p) (ltb j p) made.below in (ltb-true i p b.0, ltb-true j p b.1)

    worth_is : (n : Node) → MadeOf fs p n → worth m v (filled m v fs before p) n ≡ value m v (formula_at fs p)
    worth_is Falsum made = ap (value m v) (sym made.formula)
    worth_is (Letter c) made = ap (value m v) (sym made.formula)
    worth_is (Joined k i j) made =
        let b = parts k i j made in
        let h : p ≤ length fs = omega (arith, made.stored) in
        ap₂ (operation m k) (filled_at p i h b.0) (filled_at p j h b.1) ∙ ap (value m v) (sym made.formula)

    ready : Lawful m → ByMembers m v → AllFitting fs → (n : Node) → MadeOf fs p n → Ready m (filled m v fs before p) n
    ready l members all Falsum made = tt
    ready l members all (Letter c) made =
        let fit = subst (λ f. lettered f ≡ true) made.formula (all p made.stored).2 in
        let b = and_parts (leb 97 c) (leb c 122) fit in
        (leb-true 97 c b.0, leb-true c 122 b.1)
    ready l members all (Joined k i j) made =
        let b = parts k i j made in
        let h : p ≤ length fs = omega (arith, made.stored) in
        let long = length_filled p h in (
          omega arith,
          omega arith,
          subst (Member m) (sym (filled_at p i h b.0)) (value_in m l v members (formula_at fs i)),
          subst (Member m) (sym (filled_at p j h b.1)) (value_in m l v members (formula_at fs j)),
        )

    -- the same of a buffer that is filled so far

    pub ready_in : Lawful m → ByMembers m v → AllFitting fs → (buffer : List ℕ) → buffer ≡ filled m v fs before p → (n : Node) → MadeOf fs p n → Ready m buffer n
    ready_in l members all buffer e n made = subst (λ b. Ready m b n) (sym e) (ready l members all n made)

    pub fills : (buffer : List ℕ) → buffer ≡ filled m v fs before p → (n : Node) → MadeOf fs p n → (x : ℕ) → x ≡ worth m v buffer n → set buffer p x ≡ filled m v fs before (p + 1)
    fills buffer e n made x is =
        ap (λ b. set b p x) e ∙ filled_more p x made.stored (is ∙ ap (λ b. worth m v b n) e ∙ worth_is n made)
