-- The first wrong place of a text, and the formula of a whole one.
use Rattle.std.proofs.Common.{◌≡◌, ℕ, ◌+◌, ◌<◌, ◌≤◌, List, [], ◌∷◌, ◌++◌, length, get_or, take, drop, sym, refl, ap, ◌∙◌, subst, ⊎_elim, append_assoc, append-nil, arith, length-append, take-append-drop}
use Rattle.std.proofs.lemmas.List.{take_at, take_more, take-take, drop_all}
use Rattle.std.proofs.lemmas.Bool.{cases_lt, cases_order}
use Rattle.grammar.specs.Symbols.{symbol}
use Rattle.grammar.specs.Formula.{Formula}
use Rattle.grammar.specs.Texts.{Text, Begins, FirstWrong, NoFormula}
use Rattle.grammar.specs.Scanning.{Awaited, step, run, Stands, Breaks, Found}
use Rattle.grammar.specs.Scanning.Awaited.{formula}
use Rattle.grammar.specs.Scanning.State.{wrong, awaits}
use Rattle.grammar.proofs.Automaton.{run_append, run_text, begun, begins_not_wrong, awaits_begins, awaits_none}

-- a front of what begins a formula begins one

front_begins : (s t : List ℕ) → Begins (s ++ t) → Begins s
front_begins s t (f, rest, x) = (f, t ++ rest, subst (Text f) (append_assoc s t rest) x)

take_begins : (s : List ℕ) (k i : ℕ) → k ≤ i → Begins (take i s) → Begins (take k s)
take_begins s k i h b =
    front_begins (take k s) (drop k (take i s)) (subst Begins (sym (ap (λ l. l ++ drop k (take i s)) (sym (take-take k i s h)) ∙ take-append-drop k (take i s))) b)

-- the first wrong place is one

no_earlier : (s : List ℕ) (i j : ℕ) → FirstWrong s i → FirstWrong s j → i < j → ⊥
no_earlier s i j a b h = a.wrong (omega (arith, b.within)) (b.before i h)

pub one_first_wrong : (s : List ℕ) (i j : ℕ) → FirstWrong s i → FirstWrong s j → i ≡ j
one_first_wrong s i j a b = ⊎_elim (λ e. e) (⊎_elim (λ h. absurd (no_earlier s i j a b h)) (λ h. absurd (no_earlier s j i b a h))) (cases_order i j)

-- the place where a scan stops

module _ (s : List ℕ) (i : ℕ) (t : List ℕ) (st : List Awaited) (whole : s ≡ t ++ drop i s) (long : i ≡ length t) (runs : begun t ≡ awaits st) (stuck : step (symbol (get_or s i 0)) st ≡ wrong) where
  passed : take i s ≡ t
  passed = ap (take i) whole ∙ take_at t (drop i s) i (sym long)

  no_more : i < length s → Begins (take (i + 1) s) → ⊥
  no_more h b =
      begins_not_wrong (take (i + 1) s) b
      (ap begun (take_more s i 0 h ∙ ap (λ l. l ++ get_or s i 0 ∷ []) passed) ∙ run_append t (get_or s i 0 ∷ []) (awaits (formula ∷ [])) ∙ ap (run (get_or s i 0 ∷ [])) runs ∙ stuck)

  first_wrong : FirstWrong s i
  first_wrong = record {
    within = omega (arith, long, ap length whole, length-append t (drop i s));
    before = λ k h. take_begins s (k + 1) i (omega arith) (subst Begins (sym passed) (awaits_begins t st runs));
    wrong = no_more;
  }

  pub stuck_none : ((f : Formula) → length s ≤ i → Text f s → ⊥) → NoFormula s i
  stuck_none short = record {
    none = λ f x. ⊎_elim (λ h. no_more h (f, drop (i + 1) s, subst (Text f) (sym (take-append-drop (i + 1) s)) x)) (λ h. short f h x) (cases_lt i (length s));
    first = first_wrong;
  }

pub breaks_none : (s : List ℕ) (i : ℕ) → Breaks s 0 i → NoFormula s i
breaks_none s i b =
    let k = b.stuck [] in
    let g = k.2 in
    let t = g.passed in
    stuck_none s i t (k.0 ∷ k.1) g.here (omega (arith, g.long)) g.runs k.3
    (λ f h x. awaits_none k.0 k.1 (sym g.runs ∙ ap begun (sym (append-nil t) ∙ ap (λ l. t ++ l) (sym (drop_all i s h)) ∙ sym g.here) ∙ run_text x []))

pub ends_none : (s : List ℕ) (end n m : ℕ) → Found s 0 end n m → end < length s → NoFormula s end
ends_none s end n m w h =
    let d = w.stands in
    stuck_none s end d.spelling [] d.here (omega (arith, d.long)) (run_text d.text []) refl (λ f l x. omega arith)

-- a text that stands from end to end

pub whole_text : (s : List ℕ) (end n m : ℕ) (w : Found s 0 end n m) → length s ≤ end → Text w.formula s
whole_text s end n m w h =
    let d = w.stands in
    subst (Text w.formula) (sym (d.here ∙ ap (λ l. d.spelling ++ l) (drop_all end s h) ∙ append-nil d.spelling)) d.text

pub stands_whole : (s : List ℕ) (f : Formula) → Text f s → Stands s 0 (length s) f
stands_whole s f x = record {
  spelling = s;
  text = x;
  here = sym (append-nil s) ∙ ap (λ l. s ++ l) (sym (drop_all (length s) s (omega arith)));
  long = omega arith;
  within = omega arith;
}
