-- The records agree with the lines of the history: a box's first line says whether it is open, and where it ends.
use Rattle.std.proofs.Common.{◌≡◌, ℕ, zero, suc, ◌-◌, ◌<◌, ◌≤◌, ◌⊎◌, List, [], ◌∷◌, ◌++◌, length, get_or, set, Some, sym, refl, ap, ◌∙◌, subst, inl, inr, arith}
use Rattle.std.specs.List.{AllByRecursion as All, slice_get}
use Rattle.std.proofs.lemmas.Option.{slice_get-get_or, slice_get_within}
use Rattle.std.proofs.ByRecursion.{All-push, All-weaker}
use Rattle.std.proofs.lemmas.List.{length_push, length-set}
use Rattle.grammar.specs.Formula.{Formula}
use Rattle.fitch.specs.History.{premise, begin, assume, step, close, History, Box, Line, count, outer, boxes, lines}
use Rattle.fitch.specs.Records.{innermost, Names, Reach, top_first, moved, table, Kept, plain, blank, with_end, ended, records, padded}
use Rattle.fitch.specs.declared.rule.Reason.{Reason}
use Rattle.fitch.specs.declared.rule.Reason.TheVariants.{Premise, Step}
use Rattle.fitch.proofs.Nesting.{nth_push, count_lines, Named, boxes_named, named_innermost, Descend, boxes_descend, not_above}

-- lists

nth_left : {X : Type 0} (xs ys : List X) (k : ℕ) (y : X) → slice_get xs k ≡ Some y → slice_get (xs ++ ys) k ≡ Some y
nth_left [] ys k y e = let z : ◌≡◌ {A = ℕ} 0 1 = cc in absurd (omega arith)
nth_left (x ∷ xs) ys zero y e = e
nth_left (x ∷ xs) ys (suc k) y e = nth_left xs ys k y e

nth_end : {X : Type 0} (xs : List X) (x : X) → slice_get (xs ++ x ∷ []) (length xs) ≡ Some x
nth_end [] x = refl
nth_end (y ∷ xs) x = nth_end xs x

nth_set : {X : Type 0} (xs : List X) (i k : ℕ) (v y : X) → slice_get (set xs i v) k ≡ Some y → ((k ≡ i) × (y ≡ v)) ⊎ ((k ≡ i → ⊥) × (slice_get xs k ≡ Some y))
nth_set [] zero k v y e = let z : ◌≡◌ {A = ℕ} 0 1 = cc in absurd (omega arith)
nth_set [] (suc i) k v y e = let z : ◌≡◌ {A = ℕ} 0 1 = cc in absurd (omega arith)
nth_set (x ∷ xs) zero zero v y e = inl (refl, cc)
nth_set (x ∷ xs) zero (suc k) v y e = inr ((λ p. omega arith), e)
nth_set (x ∷ xs) (suc i) zero v y e = inr ((λ p. omega arith), e)
nth_set (x ∷ xs) (suc i) (suc k) v y e = more (nth_set xs i k v y e)
  where
    more : ((k ≡ i) × (y ≡ v)) ⊎ ((k ≡ i → ⊥) × (slice_get xs k ≡ Some y)) → ((suc k ≡ suc i) × (y ≡ v)) ⊎ ((suc k ≡ suc i → ⊥) × (slice_get xs k ≡ Some y))
    more (inl p) = inl (ap suc p.0, p.1)
    more (inr p) = inr ((λ q. p.0 (omega arith)), p.1)

-- e is the number of the last line directly in box b
pub record LastOf (ls : List Line) (b e : ℕ) : Type 0 where
  pub at : ℕ
  pub number : e ≡ suc at
  pub line : Line
  pub stands : slice_get ls at ≡ Some line
  pub inside : innermost line.inside ≡ b
  pub later : (k : ℕ) (m : Line) → slice_get ls k ≡ Some m → innermost m.inside ≡ b → k ≤ at

last_push : {ls : List Line} {b e : ℕ} (x : Line) → (innermost x.inside ≡ b → ⊥) → LastOf ls b e → LastOf (ls ++ x ∷ []) b e
last_push {ls} {b} {e} x ne p = record {
  at = p.at;
  number = p.number;
  line = p.line;
  stands = nth_left ls (x ∷ []) p.at p.line p.stands;
  inside = p.inside;
  later = λ k m s i. old k m i (nth_push ls x m k s);
}
  where
    old : (k : ℕ) (m : Line) → innermost m.inside ≡ b → (slice_get ls k ≡ Some m) ⊎ ((k ≡ length ls) × (x ≡ m)) → k ≤ p.at
    old k m i (inl s) = p.later k m s i
    old k m i (inr s) = absurd (ne (ap (λ y. innermost y.inside) s.1 ∙ i))

last_new : (ls : List Line) (b : ℕ) (x : Line) → innermost x.inside ≡ b → LastOf (ls ++ x ∷ []) b (suc (length ls))
last_new ls b x e = record {
  at = length ls;
  number = refl;
  line = x;
  stands = nth_end ls x;
  inside = e;
  later = λ k m s i. (let p = slice_get_within (ls ++ x ∷ []) k m s in omega (arith, length_push ls x));
}

-- the table has the open boxes, each with its last line
abbrev pub Matched : List Line → List Box → List Reach → Type 0
Matched ls [] [] = Unit {0}
Matched ls [] (t ∷ ts) = ⊥
Matched ls (b ∷ bs) [] = ⊥
Matched ls (b ∷ bs) (t ∷ ts) = (b.first ≡ t.first) × LastOf ls b.first t.end × Matched ls bs ts

matched_push : (ls : List Line) (x : Line) (bs : List Box) (ts : List Reach) → All (λ c. c.first < innermost x.inside) bs → Matched ls bs ts → Matched (ls ++ x ∷ []) bs ts
matched_push ls x [] [] p m = tt
matched_push ls x [] (t ∷ ts) p m = absurd m
matched_push ls x (b ∷ bs) [] p m = absurd m
matched_push ls x (b ∷ bs) (t ∷ ts) p m = (m.0, last_push x (λ e. omega (arith, p.0)) m.1, matched_push ls x bs ts p.1 m.2)

-- a line written in the innermost box
matched_here : (ls : List Line) (n : ℕ) (A : Formula) (bs : List Box) (ts : List Reach) → length ls ≡ n → Descend bs → Matched ls bs ts
    → Matched (ls ++ record { formula = A; inside = bs } ∷ []) bs (moved (suc n) ts)
matched_here ls n A [] [] c d m = tt
matched_here ls n A [] (t ∷ ts) c d m = absurd m
matched_here ls n A (b ∷ bs) [] c d m = absurd m
matched_here ls n A (b ∷ bs) (t ∷ ts) c d m =
    let x : Line = record { formula = A; inside = b ∷ bs } in
    (m.0, subst (λ k. LastOf (ls ++ x ∷ []) b.first (suc k)) c (last_new ls b.first x refl), matched_push ls x bs ts d.0 m.2)

matched_outer : (ls : List Line) (bs : List Box) (ts : List Reach) → Matched ls bs ts → Matched ls (outer bs) (outer ts)
matched_outer ls [] [] m = tt
matched_outer ls [] (t ∷ ts) m = absurd m
matched_outer ls (b ∷ bs) [] m = absurd m
matched_outer ls (b ∷ bs) (t ∷ ts) m = m.2

pub matched : (h : History) → Matched (lines h) (boxes h) (table h)
matched [] = tt
matched (premise A ∷ h) = matched_here (lines h) (count h) A (boxes h) (table h) (count_lines h) (boxes_descend h) (matched h)
matched (begin ∷ h) = matched h
matched (assume A ∷ h) =
    let x : Line = record { formula = A; inside = record { first = suc (count h); assumes = A } ∷ boxes h } in (
      refl,
      subst (λ k. LastOf (lines h ++ x ∷ []) (suc (count h)) (suc k)) (count_lines h) (last_new (lines h) (suc (count h)) x refl),
      matched_push (lines h) x (boxes h) (table h) (boxes_descend (assume A ∷ h)).0 (matched h),
    )
matched (step A r is ∷ h) = matched_here (lines h) (count h) A (boxes h) (table h) (count_lines h) (boxes_descend h) (matched h)
matched (close ∷ h) = matched_outer (lines h) (boxes h) (table h) (matched h)

length_ended : (ts : List Reach) (ks : List Kept) → length (ended ts ks) ≡ length ks
length_ended [] ks = refl
length_ended (t ∷ ts) ks = length-set ks (t.first - 1) _

pub count_records : (h : History) → length (records h) ≡ count h
count_records [] = refl
count_records (premise A ∷ h) = length_push (records h) _ ∙ (let p = count_records h in omega arith)
count_records (begin ∷ h) = count_records h
count_records (assume A ∷ h) = length_push (records h) _ ∙ (let p = count_records h in omega arith)
count_records (step A r is ∷ h) = length_push (records h) _ ∙ (let p = count_records h in omega arith)
count_records (close ∷ h) = length_ended (table h) (records h) ∙ count_records h

-- box b is open and has no end yet, or is closed and has one
abbrev pub Ending : List Box → List Line → ℕ → ℕ → Type 0
Ending bs ls b e = (Names b bs × (e ≡ 0)) ⊎ ((Names b bs → ⊥) × LastOf ls b e)

pub record Agree (bs : List Box) (ls : List Line) (k : ℕ) (l : Line) (r : Kept) : Type 0 where
  pub formula : r.formula ≡ l.formula
  pub inside : r.inside ≡ innermost l.inside
  pub own : innermost l.inside ≡ suc k → (r.around ≡ innermost (outer l.inside)) × Ending bs ls (suc k) r.end

abbrev Agrees : List Box → List Line → List Kept → Type 0
Agrees bs ls rs = (k : ℕ) (l : Line) (r : Kept) → slice_get ls k ≡ Some l → slice_get rs k ≡ Some r → Agree bs ls k l r

agrees_push : (bs cs : List Box) (ls : List Line) (rs : List Kept) (x : Line) (y : Kept) → length ls ≡ length rs → Agrees bs ls rs
    → ((k : ℕ) (e : ℕ) → k < length ls → Ending bs ls (suc k) e → Ending cs (ls ++ x ∷ []) (suc k) e)
    → Agree cs (ls ++ x ∷ []) (length ls) x y
    → Agrees cs (ls ++ x ∷ []) (rs ++ y ∷ [])
agrees_push bs cs ls rs x y len old lift new k l r p q = go (nth_push ls x l k p) (nth_push rs y r k q)
  where
    go : (slice_get ls k ≡ Some l) ⊎ ((k ≡ length ls) × (x ≡ l)) → (slice_get rs k ≡ Some r) ⊎ ((k ≡ length rs) × (y ≡ r)) → Agree cs (ls ++ x ∷ []) k l r
    go (inl a) (inl b) =
        let o = old k l r a b in
        let lt = slice_get_within ls k l a in
        record { formula = o.formula; inside = o.inside; own = λ e. ((o.own e).0, lift k r.end lt (o.own e).1) }
    go (inl a) (inr b) = let lt = slice_get_within ls k l a in absurd (omega (arith, b.0))
    go (inr a) (inl b) = let lt = slice_get_within rs k r b in absurd (omega (arith, a.0))
    go (inr a) (inr b) =
        let P : ℕ → Line → Kept → Type 0 = λ i m s. Agree cs (ls ++ x ∷ []) i m s in
        subst (λ s. P k l s) b.1 (subst (λ m. P k m y) a.1 (subst (λ i. P i x y) (sym a.0) new))

named_here : (bs : List Box) (k : ℕ) → innermost bs ≡ suc k → Names (suc k) bs
named_here [] k e = absurd (omega arith)
named_here (b ∷ bs) k e = inl (sym e)

-- a line written in the innermost box
agrees_plain : (h : History) (A : Formula) (why : Reason) → Agrees (boxes h) (lines h) (records h)
    → Agrees (boxes h) (lines h ++ record { formula = A; inside = boxes h } ∷ []) (records h ++ plain A why (innermost (boxes h)) ∷ [])
agrees_plain h A why old =
    agrees_push (boxes h) (boxes h) (lines h) (records h) x (plain A why (innermost (boxes h))) (count_lines h ∙ sym (count_records h)) old lift
    (record { formula = refl; inside = refl; own = λ e. absurd (omega (arith, named_innermost (count h) (boxes h) (boxes_named h), count_lines h)) })
  where
    x : Line
    x = record { formula = A; inside = boxes h }

    lift : (k : ℕ) (e : ℕ) → k < length (lines h) → Ending (boxes h) (lines h) (suc k) e → Ending (boxes h) (lines h ++ record { formula = A; inside = boxes h } ∷ []) (suc k) e
    lift k e lt (inl p) = inl p
    lift k e lt (inr p) = inr (p.0, last_push (record { formula = A; inside = boxes h }) (λ q. p.0 (named_here (boxes h) k q)) p.1)

agrees_assume : (h : History) (A : Formula) → Agrees (boxes h) (lines h) (records h) → Agrees (boxes (assume A ∷ h)) (lines (assume A ∷ h)) (records (assume A ∷ h))
agrees_assume h A old =
    agrees_push (boxes h) (boxes (assume A ∷ h)) (lines h) (records h) (record { formula = A; inside = boxes (assume A ∷ h) }) _ (count_lines h ∙ sym (count_records h)) old lift
    (record { formula = refl; inside = refl; own = λ e. (refl, inl (inl (ap suc (count_lines h)), refl)) })
  where
    lift : (k : ℕ) (e : ℕ) → k < length (lines h) → Ending (boxes h) (lines h) (suc k) e → Ending (boxes (assume A ∷ h)) (lines (assume A ∷ h)) (suc k) e
    lift k e lt (inl p) = inl (inr p.0, p.1)
    lift k e lt (inr p) = inr (shut, last_push (record { formula = A; inside = boxes (assume A ∷ h) }) (λ q. omega (arith, count_lines h)) p.1)
      where
        shut : (suc k ≡ suc (count h)) ⊎ Names (suc k) (boxes h) → ⊥
        shut (inl q) = omega (arith, count_lines h)
        shut (inr q) = p.0 q

-- the innermost box is closed
agrees_close : (ls : List Line) (rs : List Kept) (bs : List Box) (ts : List Reach) (n : ℕ) → length ls ≡ length rs → Named n bs → Descend bs → Matched ls bs ts → Agrees bs ls rs → Agrees (outer bs) ls (ended ts rs)
agrees_close ls rs [] [] n len nm d m old k l r p q = old k l r p q
agrees_close ls rs [] (t ∷ ts) n len nm d m old k l r p q = absurd m
agrees_close ls rs (b ∷ bs) [] n len nm d m old k l r p q = absurd m
agrees_close ls rs (b ∷ bs) (t ∷ ts) n len nm d m old k l r p q =
    go (nth_set rs (t.first - 1) k _ r q)
  where
    d0 : Kept
    d0 = blank

    v : Kept
    v = with_end (get_or rs (t.first - 1) blank) t.end

    go : ((k ≡ t.first - 1) × (r ≡ with_end (get_or rs (t.first - 1) blank) t.end)) ⊎ ((k ≡ t.first - 1 → ⊥) × (slice_get rs k ≡ Some r)) → Agree bs ls k l r
    go (inl s) =
        let was = get_or rs (t.first - 1) blank in
        let lt = slice_get_within ls k l p in
        let here : slice_get rs k ≡ Some was = slice_get-get_or rs k blank (omega arith) ∙ ap (λ i. Some (get_or rs i blank)) s.0 in
        let o = old k l was p here in
        let name : suc k ≡ b.first = omega (arith, s.0, m.0, nm.0.0) in
        let P : Kept → Type 0 = λ y. Agree bs ls k l y in
        subst P (sym s.1)
        (record {
          formula = o.formula;
          inside = o.inside;
          own = λ e. ((o.own e).0, inr ((λ y. not_above b.first bs d.0 (subst (λ i. Names i bs) name y)), subst (λ i. LastOf ls i t.end) (sym name) m.1));
        })
    go (inr s) =
        let o = old k l r p s.1 in
        record { formula = o.formula; inside = o.inside; own = λ e. ((o.own e).0, rest (o.own e).1) }
      where
        rest : Ending (b ∷ bs) ls (suc k) r.end → Ending bs ls (suc k) r.end
        rest (inl (inl y, z)) = absurd (s.0 (omega (arith, m.0)))
        rest (inl (inr y, z)) = inl (y, z)
        rest (inr y) = inr ((λ z. y.0 (inr z)), y.1)

pub agrees : (h : History) → Agrees (boxes h) (lines h) (records h)
agrees [] k l r p q = let z : ◌≡◌ {A = ℕ} 0 1 = cc in absurd (omega arith)
agrees (premise A ∷ h) k l r p q = agrees_plain h A Premise (agrees h) k l r p q
agrees (begin ∷ h) k l r p q = agrees h k l r p q
agrees (assume A ∷ h) k l r p q = agrees_assume h A (agrees h) k l r p q
agrees (step A s is ∷ h) k l r p q = agrees_plain h A (Step s (padded is)) (agrees h) k l r p q
agrees (close ∷ h) k l r p q =
    agrees_close (lines h) (records h) (boxes h) (table h) (count h) (count_lines h ∙ sym (count_records h)) (boxes_named h) (boxes_descend h) (matched h) (agrees h) k l r p q

-- the first line of a box
pub record HasFirst (ls : List Line) (b : ℕ) : Type 0 where
  pub at : ℕ
  pub number : b ≡ suc at
  pub line : Line
  pub stands : slice_get ls at ≡ Some line
  pub inside : innermost line.inside ≡ suc at

abbrev pub Firsts : List Line → List Box → Type 0
Firsts ls bs = All (λ b. HasFirst ls b.first) bs

first_push : (ls : List Line) (x : Line) (b : ℕ) → HasFirst ls b → HasFirst (ls ++ x ∷ []) b
first_push ls x b p = record { at = p.at; number = p.number; line = p.line; stands = nth_left ls (x ∷ []) p.at p.line p.stands; inside = p.inside }

firsts_push : (ls : List Line) (x : Line) (bs : List Box) → Firsts ls bs → Firsts (ls ++ x ∷ []) bs
firsts_push ls x bs = All-weaker (λ b. HasFirst ls b.first) (λ b. HasFirst (ls ++ x ∷ []) b.first) (λ b. first_push ls x b.first) bs

lines_push : (ls : List Line) (x : Line) → All (λ l. Firsts ls l.inside) ls → Firsts (ls ++ x ∷ []) x.inside → All (λ l. Firsts (ls ++ x ∷ []) l.inside) (ls ++ x ∷ [])
lines_push ls x p q =
    All-push (λ l. Firsts (ls ++ x ∷ []) l.inside) ls x
    (All-weaker (λ l. Firsts ls l.inside) (λ l. Firsts (ls ++ x ∷ []) l.inside) (λ l. firsts_push ls x l.inside) ls p) q

pub firsts_outer : (ls : List Line) (bs : List Box) → Firsts ls bs → Firsts ls (outer bs)
firsts_outer ls [] p = tt
firsts_outer ls (b ∷ bs) p = p.1

pub firsts : (h : History) → Firsts (lines h) (boxes h) × All (λ l. Firsts (lines h) l.inside) (lines h)
firsts [] = (tt, tt)
firsts (premise A ∷ h) = let p = firsts h in let q = firsts_push (lines h) (record { formula = A; inside = boxes h }) (boxes h) p.0 in (q, lines_push (lines h) _ p.1 q)
firsts (begin ∷ h) = firsts h
firsts (assume A ∷ h) =
    let p = firsts h in
    let x : Line = record { formula = A; inside = record { first = suc (count h); assumes = A } ∷ boxes h } in
    let f : HasFirst (lines h ++ x ∷ []) (suc (count h)) = record { at = length (lines h); number = ap suc (sym (count_lines h)); line = x; stands = nth_end (lines h) x; inside = ap suc (sym (count_lines h)) } in
    let q : Firsts (lines h ++ x ∷ []) x.inside = (f, firsts_push (lines h) x (boxes h) p.0) in
    (q, lines_push (lines h) x p.1 q)
firsts (step A r is ∷ h) = let p = firsts h in let q = firsts_push (lines h) (record { formula = A; inside = boxes h }) (boxes h) p.0 in (q, lines_push (lines h) _ p.1 q)
firsts (close ∷ h) = let p = firsts h in (firsts_outer (lines h) (boxes h) p.0, p.1)

matched_top : (ls : List Line) (bs : List Box) (ts : List Reach) → Matched ls bs ts → (top_first ts ≡ innermost bs) × (length ts ≡ length bs)
matched_top ls [] [] m = (refl, refl)
matched_top ls [] (t ∷ ts) m = absurd m
matched_top ls (b ∷ bs) [] m = absurd m
matched_top ls (b ∷ bs) (t ∷ ts) m = (sym m.0, ap suc (matched_top ls bs ts m.2).1)

pub table_top : (h : History) → top_first (table h) ≡ innermost (boxes h)
table_top h = (matched_top (lines h) (boxes h) (table h) (matched h)).0

pub table_depth : (h : History) → length (table h) ≡ length (boxes h)
table_depth h = (matched_top (lines h) (boxes h) (table h) (matched h)).1

-- the numbers of an open box are of lines
matched_within : (n : ℕ) (ls : List Line) (bs : List Box) (t : Reach) (ts : List Reach) → Named n bs → Matched ls bs (t ∷ ts) → (0 < t.first) × (t.first ≤ n) × (t.end ≤ length ls)
matched_within n ls [] t ts nm m = absurd m
matched_within n ls (b ∷ bs) t ts nm m =
    let z = m.1 in
    let p = slice_get_within ls z.at z.line z.stands in
    (omega (arith, m.0, nm.0.0), omega (arith, m.0, nm.0.1), omega (arith, z.number))

pub table_within : (h : History) (t : Reach) (ts : List Reach) → table h ≡ t ∷ ts → (0 < t.first) × (t.first ≤ count h) × (t.end ≤ count h)
table_within h t ts e =
    let r = matched_within (count h) (lines h) (boxes h) t ts (boxes_named h) (subst (λ xs. Matched (lines h) (boxes h) xs) e (matched h)) in
    (r.0, r.1, omega (arith, r.2, count_lines h))
