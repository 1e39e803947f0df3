-- What each call adds to the history that the records tell.
use Rattle.std.proofs.Common.{◌≡◌, ℕ, suc, ◌+◌, ◌-◌, ◌<◌, ◌≤◌, List, [], ◌∷◌, ◌++◌, map, length, get_or, take, set, sym, refl, ap, ◌∙◌, subst, ap₂, arith}
use Rattle.std.proofs.Math.Seq.{take-set-lt, map-set_same}
use Rattle.std.proofs.lemmas.List.{take_more_set, map_push, map-set, get_or-take, get_or-map, length-set, length-take-le}
use Rattle.grammar.specs.Contents.{formula_at}
use Rattle.grammar.specs.Formula.{Formula}
use Rattle.fitch.specs.History.{History, premise, begin, assume, step, close, count, outer, boxes, premises, Permits}
use Rattle.fitch.specs.Records.{plain, blank, with_end, records, padded, table, Reach, moved, top_first, innermost, ended}
use Rattle.fitch.specs.declared.mode.Mode.{Mode}
use Rattle.fitch.specs.declared.rule.Reason.TheVariants.{Premise, Assumption, Step}
use Rattle.fitch.specs.declared.rule.Rule.{Rule}
use Rattle.fitch.proofs.Keeping.{table_top, table_depth, table_within}
use Rattle.fitch.proofs.Premises.{all_premises}
use Rattle.ledger.specs.Recorded.{no_line, kept, ended_at, Recorded, Gathers, Derives}
use Rattle.ledger.specs.Stack.{fresh_box}
use Rattle.ledger.specs.declared.line.Line.{Line}
use Rattle.ledger.proofs.Recording.{set_more}

-- one more line
module _ {fs : List Formula} {es : List Line} {n : ℕ} {h : History} (g : Recorded fs es n h) where
  more_recorded : {after : History} (e : Line) → n < length es → e.formula < length fs
      → suc (count h) ≡ count after → records h ++ kept fs e ∷ [] ≡ records after → Recorded fs (set es n e) (n + 1) after
  more_recorded e room held num is = record {
    counted = omega (arith, g.counted);
    lines = ap (map (kept fs)) (take_more_set es n e room) ∙ map_push (kept fs) (take n es) e ∙ ap (λ ks. ks ++ kept fs e ∷ []) g.lines ∙ is;
    stored = set_more (λ _ x. x.formula < length fs) es n e no_line room g.stored held;
  }

module _ {mode : Mode} {fs : List Formula} {es : List Line} {n p : ℕ} {ts : List Reach} {h : History} (g : Derives mode fs es n p ts h) where
  top_is : top_first ts ≡ innermost (boxes h)
  top_is = ap top_first g.boxes ∙ table_top h

  pub depth_is : length ts ≡ length (boxes h)
  depth_is = ap length g.boxes ∙ table_depth h

  number : n + 1 ≡ suc (count h)
  number = omega (arith, g.recorded.counted)

  pub add_step : {us : List Reach} {r : Rule} {is : List ℕ} (f inside : ℕ) (cited : List ℕ) → f < length fs → n < 1024 → n < length es → cited ≡ padded is
      → inside ≡ top_first ts → us ≡ moved (n + 1) ts → Permits mode h (formula_at fs f) r is
      → Derives mode fs (set es n (record { formula = f; reason = Step r cited; inside = inside; around = 0; end = 0 })) (n + 1) p us (step (formula_at fs f) r is ∷ h)
  add_step {r = r} f inside cited held small room pad i b per = record {
    written = ((g.begun, per, omega (arith, g.recorded.counted)), g.written);
    begun = refl;
    recorded = more_recorded g.recorded (record { formula = f; reason = Step r cited; inside = inside; around = 0; end = 0 }) room held refl
        (ap₂ (λ x y. records h ++ plain (formula_at fs f) (Step r x) y ∷ []) pad (i ∙ top_is));
    premised = g.premised;
    boxes = b ∙ ap₂ moved number g.boxes;
  }

  pub add_box : {us : List Reach} (f around : ℕ) → f < length fs → length ts < 16 → n < 1024 → n < length es
      → around ≡ top_first ts → us ≡ fresh_box (n + 1) ∷ ts
      → Derives mode fs (set es n (record { formula = f; reason = Assumption; inside = n + 1; around = around; end = 0 })) (n + 1) p us (assume (formula_at fs f) ∷ h)
  add_box f around held shallow small room a b = record {
    written = ((g.begun, omega (arith, depth_is), omega (arith, g.recorded.counted)), g.written);
    begun = refl;
    recorded = more_recorded g.recorded (record { formula = f; reason = Assumption; inside = n + 1; around = around; end = 0 }) room held refl
        (ap₂ (λ x y. records h ++ record { formula = formula_at fs f; reason = Assumption; inside = x; around = y; end = 0 } ∷ []) number (a ∙ top_is));
    premised = g.premised;
    boxes = b ∙ ap₂ (λ k us. fresh_box k ∷ us) number g.boxes;
  }

  -- the innermost open box
  pub top_within : (t : Reach) (us : List Reach) → ts ≡ t ∷ us → (0 < t.first) × (t.first ≤ n)
  top_within t us e = let r = table_within h t us (sym g.boxes ∙ e) in (r.0, omega (arith, r.1, g.recorded.counted))

  pub end_box : {us : List Reach} (t : Reach) → n ≤ length es → ts ≡ t ∷ outer ts → us ≡ outer ts
      → Derives mode fs (set es (t.first - 1) (ended_at (get_or es (t.first - 1) no_line) t.end)) n p us (close ∷ h)
  end_box t fits e b =
      let k = t.first - 1 in
      let x = get_or es k no_line in
      let y = ended_at x t.end in
      let w = top_within t (outer ts) e in
      let was : kept fs x ≡ get_or (records h) k blank =
      ap (kept fs) (sym (get_or-take n es k no_line (omega arith)))
      ∙ sym (get_or-map (kept fs) (take n es) k no_line blank (omega (arith, length-take-le n es fits)))
      ∙ ap (λ ks. get_or ks k blank) g.recorded.lines in
      let tables : table h ≡ t ∷ outer ts = sym g.boxes ∙ e in
      record {
        written = ((g.begun, omega (arith, ap length e, depth_is)), g.written);
        begun = refl;
        recorded = record {
          counted = g.recorded.counted;
          lines =
              ap (map (kept fs)) (take-set-lt n es k y (omega (arith, w.0, w.1)))
              ∙ map-set (kept fs) (take n es) k y
              ∙ ap₂ (λ ks q. set ks k (with_end q t.end)) g.recorded.lines was
              ∙ ap (λ us. ended us (records h)) (sym tables);
          stored = λ j lt.
              let at = get_or-map (λ e. e.formula) es j no_line 0 (omega arith) in
              let after = get_or-map (λ e. e.formula) (set es k y) j no_line 0 (omega (arith, length-set es k y)) in
              subst (λ f. f < length fs) (sym at ∙ ap (λ xs. get_or xs j 0) (sym (map-set_same (λ e. e.formula) es k y no_line refl)) ∙ after) (g.recorded.stored j lt);
        };
        premised = g.premised;
        boxes = b ∙ ap outer g.boxes;
      }

-- premises
module _ {mode : Mode} {fs : List Formula} where
  module _ {es : List Line} {n : ℕ} {h : History} (g : Gathers mode fs es n h) where
    pub premises_are : length (premises h) ≡ n
    premises_are = (all_premises h g.gathers).0 ∙ sym g.recorded.counted

    pub gather : (f : ℕ) → f < length fs → n < 32 → n < length es
        → Gathers mode fs (set es n (record { formula = f; reason = Premise; inside = 0; around = 0; end = 0 })) (n + 1) (premise (formula_at fs f) ∷ h)
    gather f held few room =
        let p = all_premises h g.gathers in
        record {
          written = ((g.gathers, omega (arith, premises_are), omega (arith, g.recorded.counted)), g.written);
          gathers = g.gathers;
          recorded = more_recorded g.recorded (record { formula = f; reason = Premise; inside = 0; around = 0; end = 0 }) room held refl
              (ap (λ bs. records h ++ plain (formula_at fs f) Premise (innermost bs) ∷ []) (sym p.1));
        }

    pub begun : {ts : List Reach} → ts ≡ [] → Derives mode fs es n n ts (begin ∷ h)
    begun e =
        let p = all_premises h g.gathers in
        record {
          written = (g.gathers, g.written);
          begun = refl;
          recorded = record { counted = g.recorded.counted; lines = g.recorded.lines; stored = g.recorded.stored };
          premised = sym premises_are;
          boxes = e ∙ sym p.2;
        }
