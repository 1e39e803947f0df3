-- A formula's text is of the shape that its first symbol says.
use Rattle.std.proofs.Common.{◌≡◌, ℕ, ◌+◌, ◌<◌, ◌≤◌, List, [], ◌∷◌, ◌++◌, length, get_or, drop, sym, refl, ap, ◌∙◌, subst, add-zero, arith, length-append, length-drop}
use Rattle.std.proofs.lemmas.List.{drop-drop, drop_at, get_or-drop}
use Rattle.grammar.specs.Symbols.{symbol, sign, IsLetter}
use Rattle.grammar.specs.Formula.{Formula}
use Rattle.grammar.specs.Texts.{Text}
use Rattle.grammar.specs.Formula.Formula.{falsum, letter, joined}
use Rattle.grammar.specs.Scanning.{Stands}
use Rattle.grammar.specs.declared.connective.Connective.{Connective}
use Rattle.grammar.specs.declared.connective.Connective.TheVariants.{Implies}
use Rattle.grammar.specs.declared.symbol.Symbol.{Symbol}
use Rattle.grammar.specs.declared.symbol.Symbol.TheVariants.{Falsum, Letter, Not, Open, Sign}
use Rattle.grammar.proofs.Unambiguity.{bracketed_append}
use Rattle.grammar.proofs.Automaton.{symbol_letter, symbol_sign}

record Front (s : List ℕ) (at b : ℕ) (rest : List ℕ) : Type 0 where
  inside : at < length s
  byte : get_or s at 0 ≡ b
  next : drop (at + 1) s ≡ rest

front : (s : List ℕ) (at b : ℕ) (rest : List ℕ) → drop at s ≡ b ∷ rest → Front s at b rest
front s at b rest e = record {
  inside = omega (arith, length-drop at s, ap length e);
  byte = ap (λ i. get_or s i 0) (sym (add-zero at)) ∙ sym (get_or-drop at s 0 0) ∙ ap (λ l. get_or l 0 0) e;
  next = sym (drop-drop 1 at s) ∙ ap (drop 1) e;
}

after : (s : List ℕ) (at : ℕ) (t rest : List ℕ) → drop at s ≡ t ++ rest → drop (at + length t) s ≡ rest
after s at t rest e = sym (drop-drop (length t) at s) ∙ ap (drop (length t)) e ∙ drop_at t rest (length t) refl

pub data Shape (s : List ℕ) (at end : ℕ) : Formula → Type 0 where
  is_falsum : symbol (get_or s at 0) ≡ Falsum → at < length s → end ≡ at + 1 → Shape s at end falsum
  is_letter : symbol (get_or s at 0) ≡ Letter → IsLetter (get_or s at 0) → at < length s → end ≡ at + 1 → Shape s at end (letter (get_or s at 0))
  is_not : {g : Formula} → symbol (get_or s at 0) ≡ Not → at < length s → Stands s (at + 1) end g → Shape s at end (joined Implies g falsum)
  is_joined : {k : Connective} {g h : Formula} (mid stop : ℕ) → symbol (get_or s at 0) ≡ Open → at < length s → Stands s (at + 1) mid g → mid < length s → symbol (get_or s mid 0) ≡ Sign k → Stands s (mid + 1) stop h → stop < length s → end ≡ stop + 1 → Shape s at end (joined k g h)

shape_by : (s : List ℕ) (at end : ℕ) {f : Formula} {t : List ℕ} → Text f t → drop at s ≡ t ++ drop end s → end ≡ at + length t → end ≤ length s → Shape s at end f
shape_by s at end Text.falsum e l w = let p = front s at 35 (drop end s) e in is_falsum (ap symbol p.byte) p.inside l
shape_by s at end (Text.letter {c = c} h) e l w =
    let p = front s at c (drop end s) e in
    subst (λ b. Shape s at end (letter b)) p.byte (is_letter (ap symbol p.byte ∙ symbol_letter c h) (subst IsLetter (sym p.byte) h) p.inside l)
shape_by s at end (Text.joined {k = k} {s = t} {t = u} x y) e l w =
    let p = front s at 40 (t ++ (sign k ∷ u ++ (41 ∷ drop end s))) (e ∙ bracketed_append k t u (drop end s)) in
    let mid : ℕ = at + 1 + length t in
    let m = after s (at + 1) t (sign k ∷ u ++ (41 ∷ drop end s)) p.next in
    let q = front s mid (sign k) (u ++ (41 ∷ drop end s)) m in
    let stop : ℕ = mid + 1 + length u in
    let n = after s (mid + 1) u (41 ∷ drop end s) q.next in
    let r = front s stop 41 (drop end s) n in
    is_joined mid stop (ap symbol p.byte) p.inside
    (record { spelling = t; text = x; here = p.next ∙ ap (λ z. t ++ z) (sym m); long = refl; within = omega (arith, q.inside) })
    q.inside (ap symbol q.byte ∙ symbol_sign k)
    (record { spelling = u; text = y; here = q.next ∙ ap (λ z. u ++ z) (sym n); long = refl; within = omega (arith, r.inside) })
    r.inside (omega (arith, l, length-append t (sign k ∷ u ++ (41 ∷ [])), length-append u (41 ∷ [])))
shape_by s at end (Text.negated {s = t} x) e l w =
    let p = front s at 126 (t ++ drop end s) e in
    is_not (ap symbol p.byte) p.inside (record { spelling = t; text = x; here = p.next; long = omega (arith, l); within = w })

pub shape : {s : List ℕ} {at end : ℕ} {f : Formula} → Stands s at end f → Shape s at end f
shape {s} {at} {end} d = shape_by s at end d.text d.here d.long d.within

two : {A : Type 0} (x y z : Symbol) → x ≡ y → x ≡ z → (y ≡ z → ◌≡◌ {A = ℕ} 0 1) → A
two x y z p q h = absurd (let e = h (sym p ∙ q) in omega arith)

-- what a symbol says of the formula whose text it begins
pub record AtLetter (s : List ℕ) (at end : ℕ) (f : Formula) : Type 0 where
  pub formula : f ≡ letter (get_or s at 0)
  pub letter : IsLetter (get_or s at 0)
  pub inside : at < length s
  pub ends : end ≡ at + 1

pub at_letter : {s : List ℕ} {at end : ℕ} {f : Formula} → Shape s at end f → symbol (get_or s at 0) ≡ Letter → AtLetter s at end f
at_letter (is_falsum y h e) x = two _ _ _ y x (λ z. cc)
at_letter (is_letter y l h e) x = record { formula = refl; letter = l; inside = h; ends = e }
at_letter (is_not y h d) x = two _ _ _ y x (λ z. cc)
at_letter (is_joined mid stop y h a i k b j e) x = two _ _ _ y x (λ z. cc)

pub record AtNot (s : List ℕ) (at end : ℕ) (f : Formula) : Type 0 where
  pub part : Formula
  pub formula : f ≡ joined Implies part falsum
  pub inside : at < length s
  pub stands : Stands s (at + 1) end part

pub at_not : {s : List ℕ} {at end : ℕ} {f : Formula} → Shape s at end f → symbol (get_or s at 0) ≡ Not → AtNot s at end f
at_not (is_falsum y h e) x = two _ _ _ y x (λ z. cc)
at_not (is_letter y l h e) x = two _ _ _ y x (λ z. cc)
at_not (is_not {g = g} y h d) x = record { part = g; formula = refl; inside = h; stands = d }
at_not (is_joined mid stop y h a i k b j e) x = two _ _ _ y x (λ z. cc)

pub record AtOpen (s : List ℕ) (at end : ℕ) (f : Formula) : Type 0 where
  pub connective : Connective
  pub first : Formula
  pub second : Formula
  pub mid : ℕ
  pub stop : ℕ
  pub formula : f ≡ joined connective first second
  pub inside : at < length s
  pub one : Stands s (at + 1) mid first
  pub mid_inside : mid < length s
  pub signed : symbol (get_or s mid 0) ≡ Sign connective
  pub two : Stands s (mid + 1) stop second
  pub stop_inside : stop < length s
  pub ends : end ≡ stop + 1

pub at_open : {s : List ℕ} {at end : ℕ} {f : Formula} → Shape s at end f → symbol (get_or s at 0) ≡ Open → AtOpen s at end f
at_open (is_falsum y h e) x = two _ _ _ y x (λ z. cc)
at_open (is_letter y l h e) x = two _ _ _ y x (λ z. cc)
at_open (is_not y h d) x = two _ _ _ y x (λ z. cc)
at_open (is_joined {k = k} {g = g} {h = h} mid stop y i a j signed b l e) x = record {
  connective = k;
  first = g;
  second = h;
  mid = mid;
  stop = stop;
  formula = refl;
  inside = i;
  one = a;
  mid_inside = j;
  signed = signed;
  two = b;
  stop_inside = l;
  ends = e;
}

pub record AtFalsum (s : List ℕ) (at end : ℕ) (f : Formula) : Type 0 where
  pub formula : f ≡ falsum
  pub inside : at < length s
  pub ends : end ≡ at + 1

pub at_falsum : {s : List ℕ} {at end : ℕ} {f : Formula} → Shape s at end f → (symbol (get_or s at 0) ≡ Letter → ⊥) → (symbol (get_or s at 0) ≡ Not → ⊥) → (symbol (get_or s at 0) ≡ Open → ⊥) → AtFalsum s at end f
at_falsum (is_falsum y h e) a b c = record { formula = refl; inside = h; ends = e }
at_falsum (is_letter y l h e) a b c = absurd (a y)
at_falsum (is_not y h d) a b c = absurd (b y)
at_falsum (is_joined mid stop y h p i k q j e) a b c = absurd (c y)
