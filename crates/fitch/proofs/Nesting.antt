-- Boxes nest: the boxes that contain a line are known by the innermost of them.
use Rattle.std.proofs.Common.{◌≡◌, ℕ, zero, suc, ◌<◌, ◌≤◌, ◌⊎◌, List, [], ◌∷◌, ◌++◌, length, Some, None, sym, refl, ap, ◌∙◌, subst, inl, inr, arith}
use mathlib.Core.List.{Memᴰ}
use Rattle.std.specs.List.{AllByRecursion as All, slice_get}
use Rattle.std.proofs.ByRecursion.{All-push, All-weaker}
use Rattle.std.proofs.lemmas.List.{length_push}
use Rattle.grammar.specs.Formula.{Formula}
use Rattle.fitch.specs.History.{premise, begin, assume, step, close, History, Box, Line, count, outer, boxes, lines, Open}
use Rattle.fitch.specs.Records.{innermost, Names}

-- what holds of every element holds of one
pub all_nth : {X : Type 0} (P : X → Type 0) (xs : List X) (k : ℕ) (x : X) → All P xs → slice_get xs k ≡ Some x → P x
all_nth P [] k x p e = absurd (elim_none e)
  where
    elim_none : None ≡ Some x → ⊥
    elim_none q = let z : ◌≡◌ {A = ℕ} 0 1 = cc in omega arith
all_nth P (y ∷ ys) zero x p e = subst P (cc) p.0
all_nth P (y ∷ ys) (suc k) x p e = all_nth P ys k x p.1 e

all_both : {X : Type 0} (P Q R : X → Type 0) → ((x : X) → P x → Q x → R x) → (xs : List X) → All P xs → All Q xs → All R xs
all_both P Q R f [] p q = tt
all_both P Q R f (x ∷ xs) p q = (f x p.0 q.0, all_both P Q R f xs p.1 q.1)

-- the names of boxes lie above 0 and within n
abbrev pub Named : ℕ → List Box → Type 0
Named n bs = All (λ b. (0 < b.first) × (b.first ≤ n)) bs

named_more : (n : ℕ) (bs : List Box) → Named n bs → Named (suc n) bs
named_more n bs = All-weaker (λ b. (0 < b.first) × (b.first ≤ n)) (λ b. (0 < b.first) × (b.first ≤ suc n)) (λ b p. (p.0, omega (arith, p.1))) bs

pub named_outer : (n : ℕ) (bs : List Box) → Named n bs → Named n (outer bs)
named_outer n [] p = tt
named_outer n (b ∷ bs) p = p.1

pub named_innermost : (n : ℕ) (bs : List Box) → Named n bs → innermost bs ≤ n
named_innermost n [] p = omega arith
named_innermost n (b ∷ bs) p = p.0.1

pub boxes_named : (h : History) → Named (count h) (boxes h)
boxes_named [] = tt
boxes_named (premise A ∷ h) = named_more (count h) (boxes h) (boxes_named h)
boxes_named (begin ∷ h) = boxes_named h
boxes_named (assume A ∷ h) = ((omega arith, omega arith), named_more (count h) (boxes h) (boxes_named h))
boxes_named (step A r is ∷ h) = named_more (count h) (boxes h) (boxes_named h)
boxes_named (close ∷ h) = named_outer (count h) (boxes h) (boxes_named h)

pub lines_named : (h : History) → All (λ l. Named (count h) l.inside) (lines h)
lines_named [] = tt
lines_named (premise A ∷ h) = All-push (λ l. Named (suc (count h)) l.inside) (lines h) _
    (All-weaker (λ l. Named (count h) l.inside) (λ l. Named (suc (count h)) l.inside) (λ l. named_more (count h) l.inside) (lines h) (lines_named h))
    (boxes_named (premise A ∷ h))
lines_named (begin ∷ h) = lines_named h
lines_named (assume A ∷ h) = All-push (λ l. Named (suc (count h)) l.inside) (lines h) _
    (All-weaker (λ l. Named (count h) l.inside) (λ l. Named (suc (count h)) l.inside) (λ l. named_more (count h) l.inside) (lines h) (lines_named h))
    (boxes_named (assume A ∷ h))
lines_named (step A r is ∷ h) = All-push (λ l. Named (suc (count h)) l.inside) (lines h) _
    (All-weaker (λ l. Named (count h) l.inside) (λ l. Named (suc (count h)) l.inside) (λ l. named_more (count h) l.inside) (lines h) (lines_named h))
    (boxes_named (step A r is ∷ h))
lines_named (close ∷ h) = lines_named h

-- inner boxes have larger names
abbrev pub Descend : List Box → Type 0
Descend [] = Unit {0}
Descend (b ∷ bs) = All (λ c. c.first < b.first) bs × Descend bs

descend_outer : (bs : List Box) → Descend bs → Descend (outer bs)
descend_outer [] p = tt
descend_outer (b ∷ bs) p = p.1

pub boxes_descend : (h : History) → Descend (boxes h)
boxes_descend [] = tt
boxes_descend (premise A ∷ h) = boxes_descend h
boxes_descend (begin ∷ h) = boxes_descend h
boxes_descend (assume A ∷ h) =
    (All-weaker (λ b. (0 < b.first) × (b.first ≤ count h)) (λ b. b.first < suc (count h)) (λ b p. omega (arith, p.1)) (boxes h) (boxes_named h), boxes_descend h)
boxes_descend (step A r is ∷ h) = boxes_descend h
boxes_descend (close ∷ h) = descend_outer (boxes h) (boxes_descend h)

pub not_above : (k : ℕ) (cs : List Box) → All (λ c. c.first < k) cs → Names k cs → ⊥
not_above k [] p n = n
not_above k (c ∷ cs) p (inl e) = omega (arith, p.0)
not_above k (c ∷ cs) p (inr n) = not_above k cs p.1 n

-- bs is cs without some of its inner boxes
pub data Around (bs : List Box) : List Box → Type 0 where
  here : {cs : List Box} → bs ≡ cs → Around bs cs
  there : {c : Box} {cs : List Box} → Around bs cs → Around bs (c ∷ cs)

around_none : (cs : List Box) → Around [] cs
around_none [] = here refl
around_none (c ∷ cs) = there (around_none cs)

names_self : (bs cs : List Box) → bs ≡ cs → 0 < innermost bs → Names (innermost bs) cs
names_self bs [] e p = let q = ap innermost e in absurd (omega arith)
names_self bs (c ∷ cs) e p = inl (ap innermost e)

around_names : {bs cs : List Box} → Around bs cs → 0 < innermost bs → Names (innermost bs) cs
around_names {bs} {cs} (here e) p = names_self bs cs e p
around_names (there a) p = inr (around_names a p)

-- the boxes of a line are those open around its innermost box, while that is open
abbrev Held : List Box → Line → Type 0
Held cs l = Names (innermost l.inside) cs → Around l.inside cs

closes : (cs bs : List Box) → Descend cs → (Names (innermost bs) cs → Around bs cs) → Names (innermost bs) (outer cs) → Around bs (outer cs)
closes [] bs d held n = absurd n
closes (c ∷ cs) bs d held n = step' (held (inr n))
  where
    step' : Around bs (c ∷ cs) → Around bs cs
    step' (here e) = absurd (not_above c.first cs d.0 (subst (λ k. Names k cs) (ap innermost e) n))
    step' (there a) = a

-- the same of each of its boxes
abbrev Nest : List Box → List Box → Type 0
Nest cs [] = Unit {0}
Nest cs (b ∷ bs) = (Names b.first cs → Around (b ∷ bs) cs) × Nest cs bs

around_outer : {b : Box} {bs cs : List Box} → Around (b ∷ bs) cs → Around bs cs
around_outer {b} {bs} {cs} (here e) = subst (λ xs. Around bs xs) e (there (here refl))
around_outer (there a) = there (around_outer a)

nest_around : (bs cs : List Box) → Around bs cs → Nest cs bs
nest_around [] cs a = tt
nest_around (b ∷ bs) cs a = ((λ _. a), nest_around bs cs (around_outer a))

nest_more : (c : Box) (cs bs : List Box) (n : ℕ) → n < c.first → Named n bs → Nest cs bs → Nest (c ∷ cs) bs
nest_more c cs [] n lt p q = tt
nest_more c cs (b ∷ bs) n lt p q = (step', nest_more c cs bs n lt p.1 q.1)
  where
    step' : (b.first ≡ c.first) ⊎ Names b.first cs → Around (b ∷ bs) (c ∷ cs)
    step' (inl e) = absurd (omega (arith, p.0.1))
    step' (inr m) = there (q.0 m)

nest_outer : (cs bs : List Box) → Descend cs → Nest cs bs → Nest (outer cs) bs
nest_outer cs [] d q = tt
nest_outer cs (b ∷ bs) d q = (closes cs (b ∷ bs) d q.0, nest_outer cs bs d q.1)

pub lines_nest : (h : History) → All (λ l. Nest (boxes h) l.inside) (lines h)
lines_nest [] = tt
lines_nest (premise A ∷ h) = All-push (λ l. Nest (boxes h) l.inside) (lines h) _ (lines_nest h) (nest_around (boxes h) (boxes h) (here refl))
lines_nest (begin ∷ h) = lines_nest h
lines_nest (assume A ∷ h) =
    let box : Box = record { first = suc (count h); assumes = A } in
    All-push (λ l. Nest (box ∷ boxes h) l.inside) (lines h) _
    (all_both (λ l. Named (count h) l.inside) (λ l. Nest (boxes h) l.inside) (λ l. Nest (box ∷ boxes h) l.inside)
    (λ l p q. nest_more box (boxes h) l.inside (count h) (omega arith) p q) (lines h) (lines_named h) (lines_nest h))
    (nest_around (box ∷ boxes h) (box ∷ boxes h) (here refl))
lines_nest (step A r is ∷ h) = All-push (λ l. Nest (boxes h) l.inside) (lines h) _ (lines_nest h) (nest_around (boxes h) (boxes h) (here refl))
lines_nest (close ∷ h) =
    All-weaker (λ l. Nest (boxes h) l.inside) (λ l. Nest (outer (boxes h)) l.inside) (λ l. nest_outer (boxes h) l.inside (boxes_descend h)) (lines h) (lines_nest h)

nest_held : (cs bs : List Box) → Nest cs bs → Names (innermost bs) cs → Around bs cs
nest_held cs [] q n = around_none cs
nest_held cs (b ∷ bs) q n = q.0 n

nest_held_outer : (cs bs : List Box) → Nest cs bs → Names (innermost (outer bs)) cs → Around (outer bs) cs
nest_held_outer cs [] q n = around_none cs
nest_held_outer cs (b ∷ bs) q n = nest_held cs bs q.1 n

pub lines_held : (h : History) → All (Held (boxes h)) (lines h)
lines_held h = All-weaker (λ l. Nest (boxes h) l.inside) (Held (boxes h)) (λ l. nest_held (boxes h) l.inside) (lines h) (lines_nest h)

-- every box around an open box is open
pub around_mem : {bs cs : List Box} (b : Box) → Around bs cs → Memᴰ b bs → Memᴰ b cs
around_mem b (here e) m = subst (λ xs. Memᴰ b xs) e m
around_mem b (there a) m = Memᴰ.tail (around_mem b a m)

-- a line is reachable where its innermost box is open
pub reach : (h : History) (k : ℕ) (l : Line) → slice_get (lines h) k ≡ Some l → Names (innermost l.inside) (boxes h) → Open h l.inside
reach h k l e n b m = around_mem b (all_nth (Held (boxes h)) (lines h) k l (lines_held h) e n) m

-- and the boxes around its innermost box are open where the next one out is
pub reach_outer : (h : History) (k : ℕ) (l : Line) → slice_get (lines h) k ≡ Some l → Names (innermost (outer l.inside)) (boxes h) → Open h (outer l.inside)
reach_outer h k l e n b m =
    around_mem b (nest_held_outer (boxes h) l.inside (all_nth (λ y. Nest (boxes h) y.inside) (lines h) k l (lines_nest h) e) n) m

-- the last line of a list, or one before it
pub nth_push : {X : Type 0} (xs : List X) (x y : X) (k : ℕ) → slice_get (xs ++ x ∷ []) k ≡ Some y → (slice_get xs k ≡ Some y) ⊎ ((k ≡ length xs) × (x ≡ y))
nth_push [] x y zero e = inr (refl, cc)
nth_push [] x y (suc k) e = inl e
nth_push (z ∷ xs) x y zero e = inl e
nth_push (z ∷ xs) x y (suc k) e = more (nth_push xs x y k e)
  where
    more : (slice_get xs k ≡ Some y) ⊎ ((k ≡ length xs) × (x ≡ y)) → (slice_get xs k ≡ Some y) ⊎ ((suc k ≡ suc (length xs)) × (x ≡ y))
    more (inl p) = inl p
    more (inr p) = inr (ap suc p.0, p.1)

pub count_lines : (h : History) → length (lines h) ≡ count h
count_lines [] = refl
count_lines (premise A ∷ h) = length_push (lines h) _ ∙ (let p = count_lines h in omega arith)
count_lines (begin ∷ h) = count_lines h
count_lines (assume A ∷ h) = length_push (lines h) _ ∙ (let p = count_lines h in omega arith)
count_lines (step A r is ∷ h) = length_push (lines h) _ ∙ (let p = count_lines h in omega arith)
count_lines (close ∷ h) = count_lines h

-- the boxes of a line are known by the innermost
abbrev Unique : List Line → Type 0
Unique ls = (i j : ℕ) (l m : Line) → slice_get ls i ≡ Some l → slice_get ls j ≡ Some m → innermost l.inside ≡ innermost m.inside → l.inside ≡ m.inside

-- boxes that hold lines with the boxes now open
now_open : (cs bs : List Box) (n : ℕ) → Named n cs → Named n bs → Descend cs → (Names (innermost bs) cs → Around bs cs) → innermost bs ≡ innermost cs → bs ≡ cs
now_open [] [] n p q d held e = refl
now_open [] (b ∷ bs) n p q d held e = absurd (omega (arith, q.0.0))
now_open (c ∷ cs) bs n p q d held e = same (held (inl e))
  where
    same : Around bs (c ∷ cs) → bs ≡ c ∷ cs
    same (here r) = r
    same (there a) = absurd (not_above c.first cs d.0 (subst (λ k. Names k cs) e (around_names a (omega (arith, p.0.0)))))

-- one more line keeps that, where its boxes are told apart from the others'
unique_push : (ls : List Line) (x : Line) → Unique ls
    → ((i : ℕ) (l : Line) → slice_get ls i ≡ Some l → innermost l.inside ≡ innermost x.inside → l.inside ≡ x.inside)
    → Unique (ls ++ x ∷ [])
unique_push ls x u new i j l m p q e = go (nth_push ls x l i p) (nth_push ls x m j q)
  where
    go : (slice_get ls i ≡ Some l) ⊎ ((i ≡ length ls) × (x ≡ l)) → (slice_get ls j ≡ Some m) ⊎ ((j ≡ length ls) × (x ≡ m)) → l.inside ≡ m.inside
    go (inl a) (inl b) = u i j l m a b e
    go (inl a) (inr b) = new i l a (e ∙ sym (ap (λ y. innermost y.inside) b.1)) ∙ ap (λ y. y.inside) b.1
    go (inr a) (inl b) = sym (ap (λ y. y.inside) a.1) ∙ sym (new j m b (sym e ∙ sym (ap (λ y. innermost y.inside) a.1)))
    go (inr a) (inr b) = ap (λ y. y.inside) (sym a.1 ∙ b.1)

unique_here : (h : History) (i : ℕ) (l : Line) → slice_get (lines h) i ≡ Some l → innermost l.inside ≡ innermost (boxes h) → l.inside ≡ boxes h
unique_here h i l p e =
    now_open (boxes h) l.inside (count h) (boxes_named h)
    (all_nth (λ m. Named (count h) m.inside) (lines h) i l (lines_named h) p)
    (boxes_descend h) (all_nth (Held (boxes h)) (lines h) i l (lines_held h) p) e

pub unique : (h : History) → Unique (lines h)
unique [] i j l m p q e = let z : ◌≡◌ {A = ℕ} 0 1 = cc in absurd (omega arith)
unique (premise A ∷ h) i j l m p q e = unique_push (lines h) _ (unique h) (unique_here h) i j l m p q e
unique (begin ∷ h) i j l m p q e = unique h i j l m p q e
unique (assume A ∷ h) i j l m p q e = unique_push (lines h) _ (unique h)
    (λ a y r s. absurd (omega (arith, named_innermost (count h) y.inside (all_nth (λ z. Named (count h) z.inside) (lines h) a y (lines_named h) r)))) i j l m p q e
unique (step A r is ∷ h) i j l m p q e = unique_push (lines h) _ (unique h) (unique_here h) i j l m p q e
unique (close ∷ h) i j l m p q e = unique h i j l m p q e

old_line : (h : History) (A : Formula) (k : ℕ) (l : Line)
    → (slice_get (lines h) k ≡ Some l) ⊎ ((k ≡ length (lines h)) × (record { formula = A; inside = boxes h } ≡ l))
    → (slice_get (lines h) k ≡ Some l → innermost l.inside ≡ suc k → l.inside ≡ record { first = suc k; assumes = l.formula } ∷ outer l.inside)
    → innermost l.inside ≡ suc k → l.inside ≡ record { first = suc k; assumes = l.formula } ∷ outer l.inside
old_line h A k l (inl a) below e = below a e
old_line h A k l (inr a) below e =
    let q : innermost (boxes h) ≡ innermost l.inside = ap (λ y. innermost y.inside) a.1 in
    absurd (omega (arith, named_innermost (count h) (boxes h) (boxes_named h), count_lines h, a.0))

new_line : (h : History) (A : Formula) (k : ℕ) (l : Line)
    → (slice_get (lines h) k ≡ Some l) ⊎ ((k ≡ length (lines h)) × (record { formula = A; inside = record { first = suc (count h); assumes = A } ∷ boxes h } ≡ l))
    → (slice_get (lines h) k ≡ Some l → innermost l.inside ≡ suc k → l.inside ≡ record { first = suc k; assumes = l.formula } ∷ outer l.inside)
    → innermost l.inside ≡ suc k → l.inside ≡ record { first = suc k; assumes = l.formula } ∷ outer l.inside
new_line h A k l (inl a) below e = below a e
new_line h A k l (inr a) below e =
    let number : count h ≡ k = sym (a.0 ∙ count_lines h) in
    let P : Line → Type 0 = λ y. y.inside ≡ record { first = suc k; assumes = y.formula } ∷ outer y.inside in
    let box : ℕ → List Box = λ n. record { first = suc n; assumes = A } ∷ boxes h in
    subst P a.1 (ap box number)

-- a line whose innermost box has the line's own number is the first line of that box
pub first_line : (h : History) (k : ℕ) (l : Line) → slice_get (lines h) k ≡ Some l → innermost l.inside ≡ suc k
    → l.inside ≡ record { first = suc k; assumes = l.formula } ∷ outer l.inside
first_line [] k l p e = let z : ◌≡◌ {A = ℕ} 0 1 = cc in absurd (omega arith)
first_line (premise A ∷ h) k l p e = old_line h A k l (nth_push (lines h) _ l k p) (first_line h k l) e
first_line (begin ∷ h) k l p e = first_line h k l p e
first_line (assume A ∷ h) k l p e = new_line h A k l (nth_push (lines h) _ l k p) (first_line h k l) e
first_line (step A r is ∷ h) k l p e = old_line h A k l (nth_push (lines h) _ l k p) (first_line h k l) e
first_line (close ∷ h) k l p e = first_line h k l p e
