-- What a front of a text awaits: a machine with a stack that accepts the fronts of formulas' texts.
use Rattle.std.proofs.Common.{◌≡◌, ℕ, List, [], ◌∷◌, ◌++◌, sym, refl, ap, ◌∙◌, subst, append-nil, arith}
use Rattle.std.proofs.lemmas.Bool.Decides.{nat_tests}
use Rattle.grammar.specs.Symbols.{symbol, sign, IsLetter}
use Rattle.grammar.specs.Formula.{Formula}
use Rattle.grammar.specs.Texts.{Text, Begins}
use Rattle.grammar.specs.Scanning.{Awaited, State, step, run}
use Rattle.grammar.specs.Scanning.Awaited.{formula, a_sign, close}
use Rattle.grammar.specs.Scanning.State.{wrong, awaits}
use Rattle.grammar.proofs.Unambiguity.{bracketed_append}
use Rattle.grammar.specs.declared.connective.Connective.{Connective}
use Rattle.grammar.specs.declared.connective.Connective.TheVariants.{And, Or, Implies}
use Rattle.grammar.specs.declared.symbol.Symbol.{Symbol}
use Rattle.grammar.specs.declared.symbol.Symbol.TheVariants.{Falsum, Letter, Not, Open, Close, Sign, Other}

pub run_wrong : (s : List ℕ) → run s wrong ≡ wrong
run_wrong [] = refl
run_wrong (b ∷ s) = refl

pub run_append : (s t : List ℕ) (σ : State) → run (s ++ t) σ ≡ run t (run s σ)
run_append [] t σ = refl
run_append (b ∷ s) t wrong = sym (run_wrong t)
run_append (b ∷ s) t (awaits st) = run_append s t (step (symbol b) st)

pub symbol_letter : (c : ℕ) → IsLetter c → symbol c ≡ Letter
symbol_letter c h = grind (arith, nat_tests)

pub symbol_sign : (k : Connective) → symbol (sign k) ≡ Sign k
symbol_sign And = refl
symbol_sign Or = refl
symbol_sign Implies = refl

pub run_text : {f : Formula} {s : List ℕ} → Text f s → (st : List Awaited) → run s (awaits (formula ∷ st)) ≡ awaits st
run_text Text.falsum st = refl
run_text (Text.letter {c = c} h) st = ap (λ y. step y (formula ∷ st)) (symbol_letter c h)
run_text (Text.joined {k = k} {s = s} {t = t} x y) st =
    run_append s (sign k ∷ t ++ (41 ∷ [])) (awaits (formula ∷ a_sign ∷ formula ∷ close ∷ st))
    ∙ ap (run (sign k ∷ t ++ (41 ∷ []))) (run_text x (a_sign ∷ formula ∷ close ∷ st))
    ∙ ap (λ y. run (t ++ (41 ∷ [])) (step y (a_sign ∷ formula ∷ close ∷ st))) (symbol_sign k)
    ∙ run_append t (41 ∷ []) (awaits (formula ∷ close ∷ st))
    ∙ ap (run (41 ∷ [])) (run_text y (close ∷ st))
run_text (Text.negated x) st = run_text x st

-- the shortest end that is awaited
abbrev ending : List Awaited → List ℕ
ending [] = []
ending (formula ∷ st) = 35 ∷ ending st
ending (a_sign ∷ st) = 38 ∷ ending st
ending (close ∷ st) = 41 ∷ ending st

run_ending : (st : List Awaited) → run (ending st) (awaits st) ≡ awaits []
run_ending [] = refl
run_ending (formula ∷ st) = run_ending st
run_ending (a_sign ∷ st) = run_ending st
run_ending (close ∷ st) = run_ending st

data Spelled : List Awaited → List ℕ → Type 0 where
  done : Spelled [] []
  by_formula : {f : Formula} {s u : List ℕ} {st : List Awaited} → Text f s → Spelled st u → Spelled (formula ∷ st) (s ++ u)
  by_sign : (k : Connective) {u : List ℕ} {st : List Awaited} → Spelled st u → Spelled (a_sign ∷ st) (sign k ∷ u)
  by_close : {u : List ℕ} {st : List Awaited} → Spelled st u → Spelled (close ∷ st) (41 ∷ u)

negate : {st : List Awaited} {q : List ℕ} → Spelled (formula ∷ st) q → Spelled (formula ∷ st) (126 ∷ q)
negate (by_formula x z) = by_formula (Text.negated x) z

bracket : {st : List Awaited} {q : List ℕ} → Spelled (formula ∷ a_sign ∷ formula ∷ close ∷ st) q → Spelled (formula ∷ st) (40 ∷ q)
bracket {st} (by_formula {s = s} x (by_sign k (by_formula {s = t} y (by_close {u = u} z)))) =
    subst (Spelled (formula ∷ st)) (bracketed_append k s t u) (by_formula (Text.joined x y) z)

pub wrong_not : (st : List Awaited) → wrong ≡ awaits st → ⊥
wrong_not st e = let z : ◌≡◌ {A = ℕ} 0 1 = cc in omega arith

pub awaits_none : (a : Awaited) (st : List Awaited) → awaits (a ∷ st) ≡ awaits [] → ⊥
awaits_none a st e = let z : ◌≡◌ {A = ℕ} 0 1 = cc in omega arith

-- what a byte is, from its symbol
pub is_falsum : (b : ℕ) → symbol b ≡ Falsum → 35 ≡ b
is_falsum b e = grind (arith, nat_tests)

pub is_letter : (b : ℕ) → symbol b ≡ Letter → IsLetter b
is_letter b e = grind (arith, nat_tests)

pub is_not : (b : ℕ) → symbol b ≡ Not → 126 ≡ b
is_not b e = grind (arith, nat_tests)

pub is_open : (b : ℕ) → symbol b ≡ Open → 40 ≡ b
is_open b e = grind (arith, nat_tests)

pub is_close : (b : ℕ) → symbol b ≡ Close → 41 ≡ b
is_close b e = grind (arith, nat_tests)

pub is_sign : (b : ℕ) (k : Connective) → symbol b ≡ Sign k → sign k ≡ b
is_sign b And e = grind (arith, nat_tests)
is_sign b Or e = grind (arith, nat_tests)
is_sign b Implies e = grind (arith, nat_tests)

abbrev Ending : List ℕ → Type 0
Ending q = (st : List Awaited) → run q (awaits st) ≡ awaits [] → Spelled st q

at_formula : (b : ℕ) (q : List ℕ) (st : List Awaited) (y : Symbol) → symbol b ≡ y → Ending q → run q (step y (formula ∷ st)) ≡ awaits [] → Spelled (formula ∷ st) (b ∷ q)
at_formula b q st Falsum s ih e = subst (λ c. Spelled (formula ∷ st) (c ∷ q)) (is_falsum b s) (by_formula Text.falsum (ih st e))
at_formula b q st Letter s ih e = by_formula (Text.letter (is_letter b s)) (ih st e)
at_formula b q st Not s ih e = subst (λ c. Spelled (formula ∷ st) (c ∷ q)) (is_not b s) (negate (ih (formula ∷ st) e))
at_formula b q st Open s ih e = subst (λ c. Spelled (formula ∷ st) (c ∷ q)) (is_open b s) (bracket (ih (formula ∷ a_sign ∷ formula ∷ close ∷ st) e))
at_formula b q st Close s ih e = absurd (wrong_not [] (sym (run_wrong q) ∙ e))
at_formula b q st (Sign k) s ih e = absurd (wrong_not [] (sym (run_wrong q) ∙ e))
at_formula b q st Other s ih e = absurd (wrong_not [] (sym (run_wrong q) ∙ e))

at_sign : (b : ℕ) (q : List ℕ) (st : List Awaited) (y : Symbol) → symbol b ≡ y → Ending q → run q (step y (a_sign ∷ st)) ≡ awaits [] → Spelled (a_sign ∷ st) (b ∷ q)
at_sign b q st Falsum s ih e = absurd (wrong_not [] (sym (run_wrong q) ∙ e))
at_sign b q st Letter s ih e = absurd (wrong_not [] (sym (run_wrong q) ∙ e))
at_sign b q st Not s ih e = absurd (wrong_not [] (sym (run_wrong q) ∙ e))
at_sign b q st Open s ih e = absurd (wrong_not [] (sym (run_wrong q) ∙ e))
at_sign b q st Close s ih e = absurd (wrong_not [] (sym (run_wrong q) ∙ e))
at_sign b q st (Sign k) s ih e = subst (λ c. Spelled (a_sign ∷ st) (c ∷ q)) (is_sign b k s) (by_sign k (ih st e))
at_sign b q st Other s ih e = absurd (wrong_not [] (sym (run_wrong q) ∙ e))

at_close : (b : ℕ) (q : List ℕ) (st : List Awaited) (y : Symbol) → symbol b ≡ y → Ending q → run q (step y (close ∷ st)) ≡ awaits [] → Spelled (close ∷ st) (b ∷ q)
at_close b q st Falsum s ih e = absurd (wrong_not [] (sym (run_wrong q) ∙ e))
at_close b q st Letter s ih e = absurd (wrong_not [] (sym (run_wrong q) ∙ e))
at_close b q st Not s ih e = absurd (wrong_not [] (sym (run_wrong q) ∙ e))
at_close b q st Open s ih e = absurd (wrong_not [] (sym (run_wrong q) ∙ e))
at_close b q st Close s ih e = subst (λ c. Spelled (close ∷ st) (c ∷ q)) (is_close b s) (by_close (ih st e))
at_close b q st (Sign k) s ih e = absurd (wrong_not [] (sym (run_wrong q) ∙ e))
at_close b q st Other s ih e = absurd (wrong_not [] (sym (run_wrong q) ∙ e))

spelled : (q : List ℕ) → Ending q
spelled [] [] e = done
spelled [] (a ∷ st) e = absurd (awaits_none a st e)
spelled (b ∷ q) [] e = absurd (wrong_not [] (sym (run_wrong q) ∙ e))
spelled (b ∷ q) (formula ∷ st) e = at_formula b q st (symbol b) refl (spelled q) e
spelled (b ∷ q) (a_sign ∷ st) e = at_sign b q st (symbol b) refl (spelled q) e
spelled (b ∷ q) (close ∷ st) e = at_close b q st (symbol b) refl (spelled q) e

abbrev pub begun : List ℕ → State
begun s = run s (awaits (formula ∷ []))

-- the machine is right: it awaits something just after what begins a formula
pub begins_not_wrong : (s : List ℕ) → Begins s → begun s ≡ wrong → ⊥
begins_not_wrong s (f, rest, x) e =
    wrong_not [] (sym (run_wrong rest) ∙ ap (run rest) (sym e) ∙ sym (run_append s rest (awaits (formula ∷ []))) ∙ run_text x [])

whole : {q : List ℕ} → Spelled (formula ∷ []) q → (f : Formula) × Text f q
whole (by_formula {f = f} {s = s} x done) = (f, subst (Text f) (sym (append-nil s)) x)

pub awaits_begins : (s : List ℕ) (st : List Awaited) → begun s ≡ awaits st → Begins s
awaits_begins s st e =
    let w = whole (spelled (s ++ ending st) (formula ∷ []) (run_append s (ending st) (awaits (formula ∷ [])) ∙ ap (run (ending st)) e ∙ run_ending st)) in
    (w.0, ending st, w.1)
