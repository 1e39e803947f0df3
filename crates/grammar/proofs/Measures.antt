-- What every text of a formula has: its signs, its letters, and at least the written text's length.
use Rattle.std.proofs.Common.{◌≡◌, ℕ, ◌+◌, ◌≤◌, true, false, cond, leb, List, [], ◌∷◌, ◌++◌, length, refl, ap, arith}
use Rattle.std.proofs.lemmas.Bool.{and_from, and_parts, le-leb, leb-true}
use Rattle.std.proofs.lemmas.Bool.Decides.{nat_tests}
use Rattle.grammar.specs.Symbols.{sign, is_sign, signs, IsLetter}
use Rattle.grammar.specs.Formula.{Formula, nesting, joins}
use Rattle.grammar.specs.Formula.Formula.{falsum, letter, joined}
use Rattle.grammar.specs.Texts.{Text, bracketed}
use Rattle.grammar.specs.WrittenText.{text, join_text}
use Rattle.grammar.specs.Contents.{lettered, Fitting}
use Rattle.grammar.specs.TextLaws.{TextLaws}
use Rattle.grammar.specs.declared.connective.Connective.{Connective}
use Rattle.grammar.specs.declared.connective.Connective.TheVariants.{And, Or, Implies}
use Rattle.grammar.proofs.Entries.{bracketed_long}

-- signs

signs_append : (s t : List ℕ) → signs (s ++ t) ≡ signs s + signs t
signs_append [] t = omega arith
signs_append (b ∷ s) t = omega (arith, signs_append s t)

letter_no_sign : (c : ℕ) → IsLetter c → is_sign c ≡ false
letter_no_sign c h = grind (arith, nat_tests)

sign_is_sign : (k : Connective) → is_sign (sign k) ≡ true
sign_is_sign And = refl
sign_is_sign Or = refl
sign_is_sign Implies = refl

signs_bracketed : (k : Connective) (s t : List ℕ) → signs (bracketed k s t) ≡ signs s + signs t + 1
signs_bracketed k s t =
    let here : ◌≡◌ {A = ℕ} (cond (is_sign (sign k)) 1 0) 1 = ap (λ b. cond {A = ℕ} b 1 0) (sign_is_sign k) in
    omega (arith, signs_append s (sign k ∷ t ++ (41 ∷ [])), signs_append t (41 ∷ []))

-- every text of a formula has as many signs as the formula has connectives
pub signs_joins : {f : Formula} {s : List ℕ} → Text f s → signs s ≡ joins f
signs_joins Text.falsum = refl
signs_joins (Text.letter {c = c} h) = let none : ◌≡◌ {A = ℕ} (cond (is_sign c) 1 0) 0 = ap (λ b. cond {A = ℕ} b 1 0) (letter_no_sign c h) in omega arith
signs_joins (Text.joined {k = k} {s = s} {t = t} x y) = omega (arith, signs_bracketed k s t, signs_joins x, signs_joins y)
signs_joins (Text.negated x) = omega (arith, signs_joins x)

-- letters

text_lettered : {f : Formula} {s : List ℕ} → Text f s → lettered f ≡ true
text_lettered Text.falsum = refl
text_lettered (Text.letter {c = c} h) = and_from _ _ (le-leb 97 c h.0) (le-leb c 122 h.1)
text_lettered (Text.joined x y) = and_from _ _ (text_lettered x) (text_lettered y)
text_lettered (Text.negated x) = and_from _ _ (text_lettered x) refl

-- the written text is a text

join_is_text : (k : Connective) (f g : Formula) (s t : List ℕ) → Text f s → Text g t → Text (joined k f g) (join_text k g s t)
join_is_text And f g s t x y = Text.joined x y
join_is_text Or f g s t x y = Text.joined x y
join_is_text Implies f falsum s t x y = Text.negated x
join_is_text Implies f (letter c) s t x y = Text.joined x y
join_is_text Implies f (joined k g h) s t x y = Text.joined x y

pub is_text : (f : Formula) → lettered f ≡ true → Text f (text f)
is_text falsum e = Text.falsum
is_text (letter c) e = let p = and_parts (leb 97 c) (leb c 122) e in Text.letter (leb-true 97 c p.0, leb-true c 122 p.1)
is_text (joined k f g) e = let p = and_parts (lettered f) (lettered g) e in join_is_text k f g (text f) (text g) (is_text f p.0) (is_text g p.1)

-- and it is the shortest

join_shorter : (k : Connective) (g : Formula) (s t s' t' : List ℕ) → length s ≤ length s' → length t ≤ length t' → length (join_text k g s t) ≤ length (bracketed k s' t')
join_shorter And g s t s' t' h l = omega (arith, bracketed_long And s t, bracketed_long And s' t')
join_shorter Or g s t s' t' h l = omega (arith, bracketed_long Or s t, bracketed_long Or s' t')
join_shorter Implies falsum s t s' t' h l = omega (arith, bracketed_long Implies s' t')
join_shorter Implies (letter c) s t s' t' h l = omega (arith, bracketed_long Implies s t, bracketed_long Implies s' t')
join_shorter Implies (joined k f g) s t s' t' h l = omega (arith, bracketed_long Implies s t, bracketed_long Implies s' t')

pub text_shortest : {f : Formula} {s : List ℕ} → Text f s → length (text f) ≤ length s
text_shortest Text.falsum = omega arith
text_shortest (Text.letter h) = omega arith
text_shortest (Text.joined {k = k} {f = f} {g = g} {s = s} {t = t} x y) = join_shorter k g (text f) (text g) s t (text_shortest x) (text_shortest y)
text_shortest (Text.negated x) = omega (arith, text_shortest x)

pub fits : (s : List ℕ) (f : Formula) → Text f s → length s ≤ 1024 → nesting f ≤ 32 → Fitting f
fits s f x long deep = (deep, omega (arith, text_shortest x), text_lettered x)

pub text_laws : TextLaws
text_laws = record { written = is_text; shortest = text_shortest; signs_are = signs_joins }
