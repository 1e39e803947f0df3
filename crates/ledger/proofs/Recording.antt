-- What the records say of the history that they record.
use Rattle.std.proofs.Common.{◌≡◌, ℕ, zero, suc, ◌+◌, ◌-◌, ◌<◌, ◌≤◌, ◌≢◌, ◌⊎◌, List, [], ◌∷◌, map, length, get_or, take, set, Bool, true, false, eqb, eqb-true, eq-eqb, Decides, Some, None, Option, MatchOption, is_none, position, cond, nat_lt, ltb-false, add-one, sym, refl, ap, ◌∙◌, subst, inl, inr, arith}
use mathlib.Core.Logic.{∥∥₁_elim}
use native.Mathlib.Decide.{dec_lt}
use Rattle.std.specs.List.{AllByRecursion as All}
use Rattle.std.proofs.Math.Seq.{take-length}
use Rattle.std.proofs.lemmas.Option.{slice_get_past, slice_get_within, slice_get-get_or, get_or_from_slice_get}
use Rattle.std.proofs.lemmas.List.{get_or-map, get_or-take, get_or_past, length-take-le, get_or-set_same, get_or-set_other, length-map}
use Rattle.std.specs.List.{position_or_len}
use Rattle.std.proofs.lemmas.List.Quantifiers.{position-Some}
use Rattle.std.proofs.lemmas.List.Sums.{fails_before_first}
use Rattle.grammar.specs.Contents.{formula_at}
use Rattle.grammar.specs.Formula.{Formula}
use Rattle.grammar.specs.Formula.Formula.{falsum}
use Rattle.fitch.specs.History.{History, line_at, lines, Reads, Shows}
use Rattle.fitch.specs.History.{Line as HLine}
use Rattle.fitch.specs.Rules.{Cited, line, box}
use Rattle.fitch.specs.Records.{Kept, blank, records}
use Rattle.fitch.specs.Exact.{kept_at, StillOpen, Missing, NoneMissing, Told, Resolved, Reached, AllReached}
use Rattle.fitch.proofs.Keeping.{count_records}
use Rattle.fitch.proofs.Nesting.{count_lines}
use Rattle.fitch.proofs.Telling.{numbered_boxes}
use Rattle.fitch.specs.declared.rule.Kind.{Kind}
use Rattle.fitch.specs.declared.rule.Kind.TheVariants.{Line as a_line, Box as a_box}
use Rattle.fitch.specs.declared.rule.Rule.{Rule}
use Rattle.shapes.specs.Giving.{meaning, Placed}
use Rattle.shapes.specs.declared.cited.Cited.{Cited as Code}
use Rattle.shapes.specs.declared.cited.Cited.TheVariants.{Line as CodeLine}
use Rattle.ledger.specs.Recorded.{no_line, kept, Recorded}
use Rattle.ledger.specs.Telling.{record_of}
use Rattle.ledger.specs.declared.line.Line.{Line}

-- what holds of some recorded history and can be decided
pub settled : {X P : Type 0} → Dec P → ∥ X ∥₁ → (X → P) → P
settled (yes p) t f = p
settled (no n) t f = absurd (∥∥₁_elim t (λ x y. absurd x) (λ x. n (f x)))

-- one more element of a list that is filled in order
pub set_more : {X : Type 0} (Q : ℕ → X → Type 0) (xs : List X) (k : ℕ) (v d : X) → k < length xs → ((j : ℕ) → j < k → Q j (get_or xs j d)) → Q k v → (j : ℕ) → j < k + 1 → Q j (get_or (set xs k v) j d)
set_more Q xs k v d lt old new j le = at (dec_lt j k)
  where
    at : Dec (j < k) → Q j (get_or (set xs k v) j d)
    at (yes p) = let ne : j ≢ k = omega arith in subst (Q j) (sym (get_or-set_other xs k j v d ne)) (old j p)
    at (no p) =
        let e : k ≡ j = omega arith in
        subst (λ i. Q i (get_or (set xs k v) i d)) e (subst (Q k) (sym (get_or-set_same xs k v d lt)) new)

-- the first n lines, as a whole
pub recorded_whole : {fs : List Formula} {es : List Line} {n : ℕ} {h : History} → n ≤ length es → Recorded fs es n h → Recorded fs (take n es) (length (take n es)) h
recorded_whole {fs} {es} {n} fits g =
    let long = length-take-le n es fits in
    record {
      counted = long ∙ g.counted;
      lines = ap (map (kept fs)) (take-length (take n es)) ∙ g.lines;
      stored = λ k lt. (let m : k < n = omega arith in subst (λ e. e.formula < length fs) (sym (get_or-take n es k no_line m)) (g.stored k m));
    }

module _ (es : List Line) where
  pub is_line : (i : ℕ) (e : Line) → record_of es i ≡ Some e → (0 < i) × (i ≤ length es) × (get_or es (i - 1) no_line ≡ e)
  is_line zero e is = absurd (cc)
  is_line (suc k) e is =
      let same : suc k - 1 ≡ k = omega arith in
      (omega arith, omega (arith, slice_get_within es k e is), ap (λ j. get_or es j no_line) same ∙ get_or_from_slice_get es k e no_line is)

  pub no_such_line : (i : ℕ) → record_of es i ≡ None → (i ≡ 0) ⊎ (length es < i)
  no_such_line zero is = inl refl
  no_such_line (suc k) is = at (dec_lt k (length es))
    where
      at : Dec (k < length es) → (suc k ≡ 0) ⊎ (length es < suc k)
      at (yes lt) = let some = slice_get-get_or es k no_line lt in absurd (cc)
      at (no ge) = inr (omega arith)

module _ {fs : List Formula} {es : List Line} {h : History} (g : Recorded fs es (length es) h) where
  -- the record of a line
  pub kept_entry : (i : ℕ) (e : Line) → record_of es i ≡ Some e → kept_at h i ≡ kept fs e
  kept_entry i e is =
      let l = is_line es i e is in
      ap (λ xs. get_or xs (i - 1) blank) (sym g.lines ∙ ap (map (kept fs)) (take-length es))
      ∙ get_or-map (kept fs) es (i - 1) no_line blank (omega (arith, l.0, l.1))
      ∙ ap (kept fs) l.2

  pub stored_at : (i : ℕ) (e : Line) → record_of es i ≡ Some e → e.formula < length fs
  stored_at i e is = let l = is_line es i e is in subst (λ x. x.formula < length fs) l.2 (g.stored (i - 1) (omega (arith, l.0, l.1)))

  pub told : (i : ℕ) (e : Line) → record_of es i ≡ Some e → Told h i
  told i e is = let l = is_line es i e is in numbered_boxes h i l.0 (omega (arith, l.1, g.counted))

  -- a box is open where its first line is recorded with no end
  pub open_exactly : (b : ℕ) (r : Bool) → MatchOption (record_of es b) (r ≡ true) (λ e. r ≡ eqb e.end 0) → Decides r (StillOpen h b)
  open_exactly b r = at (record_of es b) refl
    where
      past : (b ≡ 0) ⊎ (length es < b) → StillOpen h b
      past (inl e) = inl e
      past (inr lt) = inr (ap (λ k. k.end) (get_or_past (records h) (b - 1) blank (omega (arith, count_records h, g.counted))))

      ended : (e : Line) → record_of es b ≡ Some e → StillOpen h b → e.end ≡ 0
      ended e is (inl z) = let l = is_line es b e is in absurd (omega (arith, l.0))
      ended e is (inr z) = sym (ap (λ k. k.end) (kept_entry b e is)) ∙ z

      at : (o : Option Line) → record_of es b ≡ o → MatchOption o (r ≡ true) (λ e. r ≡ eqb e.end 0) → Decides r (StillOpen h b)
      at None is t = (λ _. past (no_such_line es b is), λ _. t)
      at (Some e) is t = (
        (λ yes. inr (ap (λ k. k.end) (kept_entry b e is) ∙ eqb-true e.end 0 (sym t ∙ yes))),
        (λ o. t ∙ eq-eqb e.end 0 (ended e is o)),
      )

  module _ (i : ℕ) (e : Line) (is : record_of es i ≡ Some e) where
    pub line_some : StillOpen h e.inside → Resolved h a_line i (line (formula_at fs e.formula))
    line_some o =
        let P : Kept → Type 0 = λ k. StillOpen h k.inside → Reads h i k.formula in
        (refl, subst P (kept_entry i e is) (told i e is).line_here o)

    pub line_none : (StillOpen h e.inside → ⊥) → (c : Cited) → Resolved h a_line i c → ⊥
    line_none shut (line A) q = shut (subst (λ k. StillOpen h k.inside) (kept_entry i e is) ((told i e is).no_line A q.1))
    line_none shut (box A C) q = let k = q.0 in cc

    pub box_some : e.inside ≡ i → StillOpen h e.around → (last : Line) → record_of es e.end ≡ Some last → Resolved h a_box i (box (formula_at fs e.formula) (formula_at fs last.formula))
    box_some own o last ends =
        let P : Kept → Type 0 = λ k. k.inside ≡ i → (k.end ≡ 0 → ⊥) → StillOpen h k.around → Shows h i k.formula (kept_at h k.end).formula in
        let l = is_line es e.end last ends in
        (refl, subst (λ A. Shows h i (formula_at fs e.formula) A) (ap (λ k. k.formula) (kept_entry e.end last ends)) (subst P (kept_entry i e is) (told i e is).box_here own (λ z. omega (arith, l.0)) o))

    box_cited_lem : (c : Cited) → Resolved h a_box i c → ((kept_at h i).inside ≡ i) × ((kept_at h i).end ≡ 0 → ⊥) × StillOpen h (kept_at h i).around
    box_cited_lem (line A) q = let k = q.0 in absurd (cc)
    box_cited_lem (box A C) q = (told i e is).no_box A C q.1

    box_told : (c : Cited) → Resolved h a_box i c → (e.inside ≡ i) × (e.end ≡ 0 → ⊥) × StillOpen h e.around
    box_told c q = let P : Kept → Type 0 = λ k. (k.inside ≡ i) × (k.end ≡ 0 → ⊥) × StillOpen h k.around in subst P (kept_entry i e is) (box_cited_lem c q)

    pub box_own : (c : Cited) → Resolved h a_box i c → e.inside ≡ i
    box_own c q = (box_told c q).0

    pub box_around : (c : Cited) → Resolved h a_box i c → StillOpen h e.around
    box_around c q = (box_told c q).2

    -- the end of a box is a line
    pub box_ends : (c : Cited) → Resolved h a_box i c → record_of es e.end ≡ None → ⊥
    box_ends c q none = at (no_such_line es e.end none)
      where
        at : (e.end ≡ 0) ⊎ (length es < e.end) → ⊥
        at (inl z) = (box_told c q).1 z
        at (inr lt) = omega (arith, g.counted, ap (λ k. k.end) (kept_entry i e is), (told i e is).end_within (box_cited_lem c q).0)

    pub has_line : (l : HLine) × (line_at h i ≡ Some l)
    has_line = let l = is_line es i e is in at i l.0 l.1
      where
        at : (j : ℕ) → 0 < j → j ≤ length es → (l : HLine) × (line_at h j ≡ Some l)
        at zero p q = absurd (omega arith)
        at (suc k) p q =
            let d : HLine = record { formula = falsum; inside = [] } in
            (get_or (lines h) k d, slice_get-get_or (lines h) k d (omega (arith, count_lines h, g.counted)))

  pub lacks_line : (i : ℕ) → record_of es i ≡ None → line_at h i ≡ None
  lacks_line zero is = refl
  lacks_line (suc k) is = at (no_such_line es (suc k) is)
    where
      at : (suc k ≡ 0) ⊎ (length es < suc k) → line_at h (suc k) ≡ None
      at (inl e) = absurd (omega arith)
      at (inr lt) = slice_get_past (lines h) k (omega (arith, count_lines h, g.counted))

  -- a number that names no line stands for nothing
  pub unresolved : (i : ℕ) → record_of es i ≡ None → (k : Kind) (c : Cited) → Resolved h k i c → ⊥
  unresolved i is k (line A) q = let none = lacks_line i is in let stands = q.1.stands in cc
  unresolved i is k (box A C) q = let none = lacks_line i is in let stands = q.1.first in cc

-- citations that name no line
module _ {fs : List Formula} {es : List Line} {h : History} (g : Recorded fs es (length es) h) where
  -- whether a number names no line
  abbrev names_none : ℕ → Bool
  names_none i = is_none (record_of es i)

  named : (i : ℕ) → names_none i ≡ false → (l : HLine) × (line_at h i ≡ Some l)
  named i = at (record_of es i) refl
    where
      at : (o : Option Line) → record_of es i ≡ o → is_none o ≡ false → (l : HLine) × (line_at h i ≡ Some l)
      at None is q = absurd (cc)
      at (Some e) is q = has_line g i e is

  unnamed : (i : ℕ) → names_none i ≡ true → line_at h i ≡ None
  unnamed i = at (record_of es i) refl
    where
      at : (o : Option Line) → record_of es i ≡ o → is_none o ≡ true → line_at h i ≡ None
      at None is q = lacks_line g i is
      at (Some e) is q = absurd (cc)

  pub none_missing : (is : List ℕ) → position (λ i. is_none (record_of es i)) is ≡ None → NoneMissing h is
  none_missing is none j lt = at (nat_lt p (length is)) refl none
    where
      p : ℕ
      p = position_or_len names_none is

      at : (b : Bool) → nat_lt p (length is) ≡ b → cond b (Some p) None ≡ None → (l : HLine) × (line_at h (get_or is j 0) ≡ Some l)
      at true is_less found = absurd (cc)
      at false not_less found = named (get_or is j 0) (fails_before_first names_none is j 0 (omega (arith, ltb-false p (length is) not_less)))

  pub first_missing : (is : List ℕ) (k : ℕ) → position (λ i. is_none (record_of es i)) is ≡ Some k → Missing h is (k + 1)
  first_missing is k some =
      let first = position-Some names_none is k 0 some in
      (k, add-one k, first.0, unnamed (get_or is k 0) first.1, λ j lt. named (get_or is j 0) (first.2 j lt))

-- what is cited, as a list
module _ (fs : List Formula) (is : List ℕ) (cs : List Code) (long : length is ≤ length cs) where
  short : length (take (length is) cs) ≡ length is
  short = length-take-le (length is) cs long

  pub length_cited : length (map (meaning fs) (take (length is) cs)) ≡ length is
  length_cited = length-map (take (length is) cs) (meaning fs) ∙ short

  pub reached_list : (h : History) (r : Rule) → ((j : ℕ) → j < length is → Reached h r is j (meaning fs (get_or cs j (CodeLine 0)))) → AllReached h r is (map (meaning fs) (take (length is) cs))
  reached_list h r p j lt =
      subst (λ c. Reached h r is j c)
      (sym (get_or-map (meaning fs) (take (length is) cs) j (CodeLine 0) (line falsum) (omega (arith, short)) ∙ ap (meaning fs) (get_or-take (length is) cs j (CodeLine 0) lt)))
      (p j lt)

all_from : {X : Type 0} (P : X → Type 0) (xs : List X) (d : X) (n : ℕ) → n ≤ length xs → ((j : ℕ) → j < n → P (get_or xs j d)) → All P (take n xs)
all_from P xs d zero le p = tt
all_from P [] d (suc n) le p = tt
all_from P (x ∷ xs) d (suc n) le p = (p 0 (omega arith), all_from P xs d n (omega arith) (λ j lt. p (suc j) (omega arith)))

pub placed_list : (fs : List Formula) (n : ℕ) (cs : List Code) → n ≤ length cs → ((j : ℕ) → j < n → Placed fs (get_or cs j (CodeLine 0))) → All (Placed fs) (take n cs)
placed_list fs n cs le p = all_from (Placed fs) cs (CodeLine 0) n le p
