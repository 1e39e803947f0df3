-- What the records say of lines and boxes.
use Rattle.std.proofs.Common.{◌≡◌, ℕ, zero, suc, ◌-◌, ◌<◌, ◌≤◌, ◌⊎◌, List, [], ◌∷◌, get_or, Some, sym, refl, ap, ◌∙◌, subst, ap₂, inl, inr, arith}
use mathlib.Core.List.{Memᴰ}
use Rattle.std.specs.List.{slice_get}
use Rattle.std.proofs.lemmas.Option.{slice_get-get_or, slice_get_within}
use Rattle.grammar.specs.Formula.{Formula}
use Rattle.grammar.specs.Formula.Formula.{falsum}
use Rattle.fitch.specs.History.{History, Box, Line, count, outer, boxes, lines, Stands, Open, Reads, Shows}
use Rattle.fitch.specs.Records.{innermost, Names, Kept, blank, records}
use Rattle.fitch.specs.Exact.{kept_at, StillOpen, Told, NumberedBoxes}
use Rattle.fitch.proofs.Nesting.{all_nth, reach, reach_outer, unique, first_line, count_lines, Named, lines_named, named_innermost, named_outer}
use Rattle.fitch.proofs.Keeping.{LastOf, Ending, Agree, agrees, HasFirst, Firsts, firsts, firsts_outer, count_records}

mem_names : {b : Box} {cs : List Box} → Memᴰ b cs → Names b.first cs
mem_names (Memᴰ.head e) = inl (ap (λ c. c.first) e)
mem_names (Memᴰ.tail m) = inr (mem_names m)

kept_is : (h : History) (k : ℕ) → k < count h → slice_get (records h) k ≡ Some (kept_at h (suc k))
kept_is h k lt =
    let e : k ≡ suc k - 1 = omega arith in
    slice_get-get_or (records h) k blank (omega (arith, count_records h)) ∙ ap (λ i. Some (get_or (records h) i blank)) e

line_is : (h : History) (k : ℕ) → k < count h → (l : Line) × (slice_get (lines h) k ≡ Some l)
line_is h k lt = let d : Line = record { formula = falsum; inside = [] } in (get_or (lines h) k d, slice_get-get_or (lines h) k d (omega (arith, count_lines h)))

-- what is kept of the first line of a box
first_kept : (h : History) (b : ℕ) → HasFirst (lines h) b → Ending (boxes h) (lines h) b (kept_at h b).end
first_kept h b f =
    let k = f.at in
    let lt = slice_get_within (lines h) k f.line f.stands in
    let a = agrees h k f.line (kept_at h (suc k)) f.stands (kept_is h k (omega (arith, count_lines h))) in
    subst (λ i. Ending (boxes h) (lines h) i (kept_at h i).end) (sym f.number) (a.own f.inside).1

is_open : (h : History) (b : ℕ) → HasFirst (lines h) b → (kept_at h b).end ≡ 0 → Names b (boxes h)
is_open h b f e = go (first_kept h b f)
  where
    go : Ending (boxes h) (lines h) b (kept_at h b).end → Names b (boxes h)
    go (inl p) = p.0
    go (inr p) = absurd (omega (arith, p.1.number))

no_end : (h : History) (b : ℕ) → HasFirst (lines h) b → Names b (boxes h) → (kept_at h b).end ≡ 0
no_end h b f n = go (first_kept h b f)
  where
    go : Ending (boxes h) (lines h) b (kept_at h b).end → (kept_at h b).end ≡ 0
    go (inl p) = p.1
    go (inr p) = absurd (p.0 n)

-- the innermost of bs is open, or there is none
now_open : (h : History) (bs : List Box) → Firsts (lines h) bs → StillOpen h (innermost bs) → ((b : Box) → Memᴰ b bs → ⊥) ⊎ Names (innermost bs) (boxes h)
now_open h [] f s = inl (λ b m. elim m [ ])
now_open h (b ∷ bs) f (inl e) = absurd (omega (arith, f.0.number))
now_open h (b ∷ bs) f (inr e) = inr (is_open h b.first f.0 e)

open_still : (h : History) (bs : List Box) → Firsts (lines h) bs → Open h bs → StillOpen h (innermost bs)
open_still h [] f o = inl refl
open_still h (b ∷ bs) f o = inr (no_end h b.first f.0 (mem_names (o b (Memᴰ.head refl))))

outside : (bs : List Box) (n : ℕ) → Named n bs → innermost bs ≡ 0 → bs ≡ []
outside [] n p e = refl
outside (b ∷ bs) n p e = absurd (omega (arith, p.0.0))

module _ (h : History) (k : ℕ) (lt : k < count h) where
  i : ℕ
  i = suc k

  l : Line
  l = (line_is h k lt).0

  stands : slice_get (lines h) k ≡ Some l
  unfolding l
  stands = (line_is h k lt).1

  abbrev r : Kept
  r = kept_at h (suc k)

  agree : Agree (boxes h) (lines h) k l r
  agree = agrees h k l r stands (kept_is h k lt)

  own_firsts : Firsts (lines h) l.inside
  own_firsts = all_nth (λ m. Firsts (lines h) m.inside) (lines h) k l (firsts h).1 stands

  kept_stands : Stands h (suc k) r.formula l.inside
  kept_stands = stands ∙ ap (λ A. Some (record { formula = A; inside = l.inside })) (sym agree.formula)

  line : StillOpen h r.inside → Reads h (suc k) r.formula
  line s = record { inside = l.inside; stands = kept_stands; reachable = reached (now_open h l.inside own_firsts (subst (StillOpen h) agree.inside s)) }
    where
      reached : ((b : Box) → Memᴰ b l.inside → ⊥) ⊎ Names (innermost l.inside) (boxes h) → Open h l.inside
      reached (inl p) b m = absurd (p b m)
      reached (inr n) b m = reach h k l stands n b m

  same_line : (A : Formula) (bs : List Box) → Stands h (suc k) A bs → (l.formula ≡ A) × (l.inside ≡ bs)
  same_line A bs e =
      let s = stands in
      let q : l ≡ record { formula = A; inside = bs } = cc in
      (ap (λ m. m.formula) q, ap (λ m. m.inside) q)

  no_line : (A : Formula) → Reads h (suc k) A → StillOpen h r.inside
  no_line A q =
      let e = (same_line A q.inside q.stands).1 in
      subst (StillOpen h) (sym agree.inside)
      (open_still h l.inside own_firsts (subst (Open h) (sym e) q.reachable))

  around_open : StillOpen h (innermost (outer l.inside)) → Open h (outer l.inside)
  around_open s = go (now_open h (outer l.inside) (firsts_outer (lines h) l.inside own_firsts) s)
    where
      go : ((b : Box) → Memᴰ b (outer l.inside) → ⊥) ⊎ Names (innermost (outer l.inside)) (boxes h) → Open h (outer l.inside)
      go (inl p) b m = absurd (p b m)
      go (inr n) b m = reach_outer h k l stands n b m

  -- a box that is closed
  module _ (own : innermost l.inside ≡ suc k) (shut : Names (suc k) (boxes h) → ⊥) (z : LastOf (lines h) (suc k) r.end) where
    abbrev A : Formula
    A = r.formula

    abbrev C : Formula
    C = (kept_at h r.end).formula

    abbrev box' : Box
    box' = record { first = suc k; assumes = A }

    inside_is : l.inside ≡ box' ∷ outer l.inside
    inside_is = first_line h k l stands own ∙ ap (λ B. record { first = suc k; assumes = B } ∷ outer l.inside) (sym agree.formula)

    inside_last : z.line.inside ≡ box' ∷ outer l.inside
    inside_last = unique h z.at k z.line l z.stands stands (z.inside ∙ sym own) ∙ inside_is

    formula_last : C ≡ z.line.formula
    formula_last =
        let lt' = slice_get_within (lines h) z.at z.line z.stands in
        ap (λ n. (kept_at h n).formula) z.number ∙ (agrees h z.at z.line _ z.stands (kept_is h z.at (omega (arith, count_lines h)))).formula

    latest : (j : ℕ) (D : Formula) → Stands h j D (box' ∷ outer l.inside) → j ≤ suc z.at
    latest zero D e = omega arith
    latest (suc j) D e = let p = z.later j _ e refl in omega arith

    shown : Open h (outer l.inside) → Shows h (suc k) A C
    shown o = record {
      around = outer l.inside;
      end = suc z.at;
      first = kept_stands ∙ ap (λ bs. Some (record { formula = A; inside = bs })) inside_is;
      last = z.stands ∙ ap₂ (λ B bs. Some (record { formula = B; inside = bs })) (sym formula_last) inside_last;
      latest = latest;
      closed = λ m. shut (mem_names m);
      reachable = o;
    }

  box : r.inside ≡ suc k → (r.end ≡ 0 → ⊥) → StillOpen h r.around → Shows h (suc k) r.formula (kept_at h r.end).formula
  box e ne s = go (agree.own own).1
    where
      own : innermost l.inside ≡ suc k
      own = sym agree.inside ∙ e

      go : Ending (boxes h) (lines h) (suc k) r.end → Shows h (suc k) r.formula (kept_at h r.end).formula
      go (inl p) = absurd (ne p.1)
      go (inr p) = shown own p.0 p.1 (around_open (subst (StillOpen h) (agree.own own).0 s))

  no_box : (A C : Formula) → Shows h (suc k) A C → (r.inside ≡ suc k) × (r.end ≡ 0 → ⊥) × StillOpen h r.around
  no_box A C q = (agree.inside ∙ own, ended (agree.own own).1, subst (StillOpen h) (sym (agree.own own).0) (open_still h (outer l.inside) (firsts_outer (lines h) l.inside own_firsts) (subst (Open h) (sym (ap outer e)) q.reachable)))
    where
      e : l.inside ≡ record { first = suc k; assumes = A } ∷ q.around
      e = (same_line A _ q.first).1

      own : innermost l.inside ≡ suc k
      own = ap innermost e

      ended : Ending (boxes h) (lines h) (suc k) r.end → r.end ≡ 0 → ⊥
      ended (inl p) z = q.closed (reach h k l stands (subst (λ n. Names n (boxes h)) (sym own) p.0) _ (subst (λ bs. Memᴰ (record { first = suc k; assumes = A }) bs) (sym e) (Memᴰ.head refl)))
      ended (inr p) z = omega (arith, p.1.number)

  end_within : r.inside ≡ suc k → r.end ≤ count h
  end_within e = go (agree.own (sym agree.inside ∙ e)).1
    where
      go : Ending (boxes h) (lines h) (suc k) r.end → r.end ≤ count h
      go (inl p) = omega (arith, p.1)
      go (inr p) = let lt' = slice_get_within (lines h) p.1.at p.1.line p.1.stands in omega (arith, p.1.number, count_lines h)

  own_named : Named (count h) l.inside
  own_named = all_nth (λ m. Named (count h) m.inside) (lines h) k l (lines_named h) stands

  inside_within : r.inside ≤ count h
  inside_within = omega (arith, agree.inside, named_innermost (count h) l.inside own_named)

  around_within : r.inside ≡ suc k → r.around ≤ count h
  around_within e = omega (arith, (agree.own (sym agree.inside ∙ e)).0, named_innermost (count h) (outer l.inside) (named_outer (count h) l.inside own_named))

  top_line : r.inside ≡ 0 → Stands h (suc k) r.formula []
  top_line e = kept_stands ∙ ap (λ bs. Some (record { formula = r.formula; inside = bs })) (outside l.inside (count h) own_named (sym agree.inside ∙ e))

  top_only : (A : Formula) → Stands h (suc k) A [] → r.inside ≡ 0
  top_only A e = agree.inside ∙ ap innermost (same_line A [] e).1

  told : Told h (suc k)
  told = record { line_here = line; no_line = no_line; box_here = box; no_box = no_box; top_line = top_line; top_only = top_only; inside_within = inside_within; around_within = around_within; end_within = end_within }

pub numbered_boxes : NumberedBoxes
numbered_boxes h zero p q = absurd (omega arith)
numbered_boxes h (suc k) p q = told h k q
