-- The steps of a scan.
use Rattle.std.proofs.Common.{◌≡◌, ℕ, ◌+◌, ◌<◌, ◌≤◌, max, List, [], ◌∷◌, ◌++◌, length, get_or, drop, sym, refl, ap, ◌∙◌, subst, ⊎_elim, append_assoc, arith, length-append}
use Rattle.std.proofs.lemmas.List.{drop_more, get_or_past}
use Rattle.std.proofs.lemmas.Bool.{cases_lt}
use Rattle.grammar.specs.Symbols.{symbol, sign}
use Rattle.grammar.specs.Formula.{Formula, nesting, joins}
use Rattle.grammar.specs.Texts.{Text, bracketed}
use Rattle.grammar.specs.Scanning.{Awaited, step, run, Goes, Breaks, Found}
use Rattle.grammar.specs.Scanning.Awaited.{formula, a_sign, close}
use Rattle.grammar.specs.Scanning.State.{wrong, awaits}
use Rattle.grammar.specs.declared.connective.Connective.{Connective}
use Rattle.grammar.specs.declared.connective.Connective.TheVariants.{Implies}
use Rattle.grammar.specs.declared.symbol.Symbol.{Symbol}
use Rattle.grammar.specs.declared.symbol.Symbol.TheVariants.{Falsum, Letter, Not, Open, Close, Sign, Other}
use Rattle.grammar.proofs.Unambiguity.{bracketed_append}
use Rattle.grammar.proofs.Automaton.{run_append, run_text, is_falsum, is_letter, is_not, is_open, is_close, is_sign}

short : {f : Formula} {t : List ℕ} → Text f t → (nesting f ≤ joins f) × (joins f < length t)
short Text.falsum = omega arith
short (Text.letter h) = omega arith
short (Text.joined {k = k} {s = s} {t = t} x y) =
    let p = short x in
    let q = short y in
    omega (arith, length-append s (sign k ∷ t ++ (41 ∷ [])), length-append t (41 ∷ []))
short (Text.negated x) = let p = short x in omega arith

-- what stands at a place of the text
abbrev Real : Symbol → Type 0
Real Falsum = Unit {0}
Real Letter = Unit {0}
Real Not = Unit {0}
Real Open = Unit {0}
Real Close = Unit {0}
Real (Sign k) = Unit {0}
Real Other = ⊥

pub no_formula : (y : Symbol) → (y ≡ Falsum → ⊥) → (y ≡ Letter → ⊥) → (y ≡ Not → ⊥) → (y ≡ Open → ⊥) → (st : List Awaited) → step y (formula ∷ st) ≡ wrong
no_formula Falsum a b c d st = absurd (a refl)
no_formula Letter a b c d st = absurd (b refl)
no_formula Not a b c d st = absurd (c refl)
no_formula Open a b c d st = absurd (d refl)
no_formula Close a b c d st = refl
no_formula (Sign k) a b c d st = refl
no_formula Other a b c d st = refl

pub no_sign : (y : Symbol) → ((k : Connective) → y ≡ Sign k → ⊥) → (st : List Awaited) → step y (a_sign ∷ st) ≡ wrong
no_sign Falsum a st = refl
no_sign Letter a st = refl
no_sign Not a st = refl
no_sign Open a st = refl
no_sign Close a st = refl
no_sign (Sign k) a st = absurd (a k refl)
no_sign Other a st = refl

pub no_close : (y : Symbol) → (y ≡ Close → ⊥) → (st : List Awaited) → step y (close ∷ st) ≡ wrong
no_close Falsum a st = refl
no_close Letter a st = refl
no_close Not a st = refl
no_close Open a st = refl
no_close Close a st = absurd (a refl)
no_close (Sign k) a st = refl
no_close Other a st = refl

module _ (s : List ℕ) where
  -- what stands past the end is no symbol
  pub inside : (at : ℕ) (y : Symbol) → symbol (get_or s at 0) ≡ y → Real y → at < length s
  inside at y e r = ⊎_elim (λ lt. lt) (λ le. absurd (subst Real (sym e ∙ ap symbol (get_or_past s at 0 le)) r)) (cases_lt at (length s))

  at_symbol : (b at : ℕ) → at < length s → b ≡ get_or s at 0 → drop at s ≡ b ∷ drop (at + 1) s
  at_symbol b at h e = drop_more s at 0 h ∙ ap (λ c. c ∷ drop (at + 1) s) (sym e)

  pub record Bounds (at end nests marks : ℕ) : Type 0 where
    pub after : at < end
    pub within : end ≤ length s
    pub deep : nests ≤ marks
    pub few : at + marks < end

  pub bounds : {at end n m : ℕ} → Found s at end n m → Bounds at end n m
  bounds {at} {end} {n} {m} w =
      let st = w.stands in
      let h = short st.text in
      let n = w.nested in
      let m = w.signed in
      let l = st.long in
      let u = st.within in
      record { after = omega arith; within = omega arith; deep = omega arith; few = omega arith }

  pub found_falsum : (at : ℕ) → at < length s → symbol (get_or s at 0) ≡ Falsum → Found s at (at + 1) 0 0
  found_falsum at h e = record {
    formula = Formula.falsum;
    stands = record { spelling = 35 ∷ []; text = Text.falsum; here = at_symbol 35 at h (is_falsum _ e); long = refl; within = omega arith };
    nested = refl;
    signed = refl;
  }

  pub found_letter : (at : ℕ) → at < length s → symbol (get_or s at 0) ≡ Letter → Found s at (at + 1) 0 0
  found_letter at h e = record {
    formula = Formula.letter (get_or s at 0);
    stands = record { spelling = get_or s at 0 ∷ []; text = Text.letter (is_letter _ e); here = at_symbol _ at h refl; long = refl; within = omega arith };
    nested = refl;
    signed = refl;
  }

  pub found_not : (at end n m : ℕ) → at < length s → symbol (get_or s at 0) ≡ Not → Found s (at + 1) end n m → Found s at end (n + 1) (m + 1)
  found_not at end n m h e w =
      let st = w.stands in
      record {
        formula = Formula.joined Implies w.formula Formula.falsum;
        stands = record {
          spelling = 126 ∷ st.spelling;
          text = Text.negated st.text;
          here = at_symbol 126 at h (is_not _ e) ∙ ap (λ l. 126 ∷ l) st.here;
          long = omega (arith, st.long);
          within = st.within;
        };
        nested = omega (arith, w.nested);
        signed = omega (arith, w.signed);
      }

  goes_none : (at : ℕ) (st : List Awaited) → Goes s at at st st
  goes_none at st = record { passed = []; here = refl; long = omega arith; runs = refl }

  goes_symbol : (at : ℕ) (st to : List Awaited) (y : Symbol) → at < length s → symbol (get_or s at 0) ≡ y → step y st ≡ awaits to → Goes s at (at + 1) st to
  goes_symbol at st to y h e r = record { passed = get_or s at 0 ∷ []; here = drop_more s at 0 h; long = refl; runs = ap (λ z. step z st) e ∙ r }

  goes_then : {a b c : ℕ} {x y z : List Awaited} → Goes s a b x y → Goes s b c y z → Goes s a c x z
  goes_then {a} {b} {c} {x} p q = record {
    passed = p.passed ++ q.passed;
    here = p.here ∙ ap (λ l. p.passed ++ l) q.here ∙ sym (append_assoc p.passed q.passed (drop c s));
    long = omega (arith, p.long, q.long, length-append p.passed q.passed);
    runs = run_append p.passed q.passed (awaits x) ∙ ap (run q.passed) p.runs ∙ q.runs;
  }

  goes_found : {at end n m : ℕ} → Found s at end n m → (st : List Awaited) → Goes s at end (formula ∷ st) st
  goes_found w st = let d = w.stands in record { passed = d.spelling; here = d.here; long = d.long; runs = run_text d.text st }

  pub breaks_here : (at : ℕ) → at ≤ length s → ((st : List Awaited) → step (symbol (get_or s at 0)) (formula ∷ st) ≡ wrong) → Breaks s at at
  breaks_here at h e = record { within = h; stuck = λ st. (formula, st, goes_none at (formula ∷ st), e st) }

  breaks_after : (at mid i : ℕ) (after : List Awaited → List Awaited) → ((st : List Awaited) → Goes s at mid (formula ∷ st) (formula ∷ after st)) → Breaks s mid i → Breaks s at i
  breaks_after at mid i after g b = record {
    within = b.within;
    stuck = λ st. let k = b.stuck (after st) in (k.0, k.1, goes_then (g st) k.2, k.3);
  }

  pub breaks_not : (at i : ℕ) → at < length s → symbol (get_or s at 0) ≡ Not → Breaks s (at + 1) i → Breaks s at i
  breaks_not at i h e b = breaks_after at (at + 1) i (λ st. st) (λ st. goes_symbol at _ _ Not h e refl) b

  -- how far a joined formula has come
  module _ (at : ℕ) (h : at < length s) (opens : symbol (get_or s at 0) ≡ Open) where
    goes_open : (st : List Awaited) → Goes s at (at + 1) (formula ∷ st) (formula ∷ a_sign ∷ formula ∷ close ∷ st)
    goes_open st = goes_symbol at _ _ Open h opens refl

    pub breaks_first : (i : ℕ) → Breaks s (at + 1) i → Breaks s at i
    breaks_first i b = breaks_after at (at + 1) i (λ st. a_sign ∷ formula ∷ close ∷ st) goes_open b

    module _ {end n m : ℕ} (first : Found s (at + 1) end n m) where
      goes_first : (st : List Awaited) → Goes s at end (formula ∷ st) (a_sign ∷ formula ∷ close ∷ st)
      goes_first st = goes_then (goes_open st) (goes_found first _)

      pub breaks_sign : ((st : List Awaited) → step (symbol (get_or s end 0)) (a_sign ∷ st) ≡ wrong) → Breaks s at end
      breaks_sign e = record { within = first.stands.within; stuck = λ st. (a_sign, _, goes_first st, e _) }

      module _ (k : Connective) (h' : end < length s) (signed : symbol (get_or s end 0) ≡ Sign k) where
        goes_sign : (st : List Awaited) → Goes s at (end + 1) (formula ∷ st) (formula ∷ close ∷ st)
        goes_sign st = goes_then (goes_first st) (goes_symbol end _ _ (Sign k) h' signed refl)

        pub breaks_second : (i : ℕ) → Breaks s (end + 1) i → Breaks s at i
        breaks_second i b = breaks_after at (end + 1) i (λ st. close ∷ st) goes_sign b

        module _ {stop n' m' : ℕ} (second : Found s (end + 1) stop n' m') where
          pub breaks_close : ((st : List Awaited) → step (symbol (get_or s stop 0)) (close ∷ st) ≡ wrong) → Breaks s at stop
          breaks_close e = record { within = second.stands.within; stuck = λ st. (close, _, goes_then (goes_sign st) (goes_found second _), e _) }

          pub found_joined : stop < length s → symbol (get_or s stop 0) ≡ Close → Found s at (stop + 1) (max n n' + 1) (m + m' + 1)
          found_joined h'' closes =
              let a = first.stands in
              let b = second.stands in
              record {
                formula = Formula.joined k first.formula second.formula;
                stands = record {
                  spelling = bracketed k a.spelling b.spelling;
                  text = Text.joined a.text b.text;
                  here = at_symbol 40 at h (is_open _ opens)
                      ∙ ap (λ l. 40 ∷ l) (a.here
                      ∙ ap (λ l. a.spelling ++ l) (at_symbol (sign k) end h' (is_sign _ k signed)
                      ∙ ap (λ l. sign k ∷ l) (b.here
                      ∙ ap (λ l. b.spelling ++ l) (at_symbol 41 stop h'' (is_close _ closes)))))
                      ∙ sym (bracketed_append k a.spelling b.spelling (drop (stop + 1) s));
                  long = omega (arith, a.long, b.long, length-append a.spelling (sign k ∷ b.spelling ++ (41 ∷ [])), length-append b.spelling (41 ∷ []));
                  within = omega arith;
                };
                nested = omega (arith, first.nested, second.nested);
                signed = omega (arith, first.signed, second.signed);
              }
