-- How a text is entered, part by part.
use Rattle.std.proofs.Common.{◌≡◌, ℕ, zero, suc, ◌+◌, ◌-◌, ◌<◌, ◌≤◌, true, List, [], ◌∷◌, ◌++◌, length, sym, refl, ap, ◌∙◌, subst, arith, length-append}
use Rattle.std.proofs.lemmas.Bool.{and_from, and_parts, lt-ltb}
use Rattle.grammar.specs.Symbols.{IsLetter, sign}
use Rattle.grammar.specs.Formula.{Formula, joins}
use Rattle.grammar.specs.Formula.Formula.{falsum, letter, joined}
use Rattle.grammar.specs.Texts.{bracketed}
use Rattle.grammar.specs.WrittenText.{text}
use Rattle.grammar.specs.Contents.{formula_at, basic, letters, lettered, added, entered, Fitting, Base}
use Rattle.grammar.specs.Records.{meaning, parts_below}
use Rattle.grammar.specs.Reading.{Enters}
use Rattle.grammar.specs.Entering.{Enterable}
use Rattle.grammar.specs.Scanning.{Stands}
use Rattle.grammar.specs.declared.connective.Connective.{Connective}
use Rattle.grammar.specs.declared.connective.Connective.TheVariants.{And, Or, Implies}
use Rattle.grammar.specs.declared.node.Node.TheVariants.{Joined}
use Rattle.grammar.proofs.Adding.{entered_long, entered_keeps}
use Rattle.grammar.proofs.Sameness.{same_true}
use Rattle.grammar.proofs.Shapes.{AtNot, AtOpen}

pub bracketed_long : (k : Connective) (s t : List ℕ) → length (bracketed k s t) ≡ length s + length t + 3
bracketed_long k s t = omega (arith, length-append s (sign k ∷ t ++ (41 ∷ [])), length-append t (41 ∷ []))

text_parts : (k : Connective) (f g : Formula) → (length (text f) < length (text (joined k f g))) × (length (text g) ≤ length (text (joined k f g)))
text_parts And f g = omega (arith, bracketed_long And (text f) (text g))
text_parts Or f g = omega (arith, bracketed_long Or (text f) (text g))
text_parts Implies f falsum = omega arith
text_parts Implies f (letter c) = omega (arith, bracketed_long Implies (text f) (text (letter c)))
text_parts Implies f (joined k g h) = omega (arith, bracketed_long Implies (text f) (text (joined k g h)))

fitting_parts : (k : Connective) (f g : Formula) → Fitting (joined k f g) → Fitting f × Fitting g
fitting_parts k f g h =
    let l = text_parts k f g in
    let b = and_parts (lettered f) (lettered g) h.2 in
    ((omega (arith, h.0), omega (arith, h.1), b.0), (omega (arith, h.0), omega (arith, h.1), b.1))

pub letters_at : (c n j : ℕ) → j < n → formula_at (letters c n) j ≡ letter (c + j)
letters_at c zero j h = absurd (omega arith)
letters_at c (suc n) zero h = ap letter (omega arith)
letters_at c (suc n) (suc j) h = letters_at (c + 1) n j (omega arith) ∙ ap letter (omega arith)

-- # and the letters are where they were
module _ (fs : List Formula) (base : Base fs) where
  base_at : (i : ℕ) → i < 27 → formula_at fs i ≡ formula_at basic i
  base_at i h = same_true _ _ (base.1 i h)

  pub falsum_at : formula_at fs 0 ≡ falsum
  falsum_at = base_at 0 (omega arith)

  pub letter_at : (c : ℕ) → IsLetter c → formula_at fs (c - 97 + 1) ≡ letter c
  letter_at c h =
      let e : c - 97 + 1 ≡ suc (c - 97) = omega arith in
      ap (formula_at fs) e ∙ base_at (suc (c - 97)) (omega arith) ∙ letters_at 97 26 (c - 97) (omega arith) ∙ ap letter (omega arith)

  pub letter_enters : (c : ℕ) → IsLetter c → Enters fs fs (letter c) (c - 97 + 1)
  letter_enters c h = record { held = refl; within = omega (arith, base.0); found = letter_at c h }

  pub falsum_enters : Enters fs fs falsum 0
  falsum_enters = record { held = refl; within = omega (arith, base.0); found = falsum_at }

-- the record of a joined formula, whose parts are entered
module _ (fs gs hs cs : List Formula) (k : Connective) (f g : Formula) (p q r : ℕ) (first : Enters fs gs f p) (second : hs ≡ entered gs g) (eq : formula_at hs q ≡ g) where
  first_at : formula_at hs p ≡ f
  first_at = ap (λ l. formula_at l p) second ∙ entered_keeps gs g p first.within ∙ first.found

  pub joined_enters : cs ≡ added hs (meaning hs (Joined k p q)) → formula_at cs r ≡ meaning hs (Joined k p q) → r < length cs → Enters fs cs (joined k f g) r
  joined_enters held found within =
      let m : meaning hs (Joined k p q) ≡ joined k f g = λ i. joined k (first_at i) (eq i) in
      record {
        held = held ∙ (λ i. added ((second ∙ ap (λ l. entered l g) first.held) i) (m i));
        within = within;
        found = found ∙ m;
      }

  pub joined_fitting : Fitting (joined k f g) → Fitting (meaning hs (Joined k p q))
  joined_fitting fit = let m : joined k f g ≡ meaning hs (Joined k p q) = λ i. joined k (sym first_at i) (sym eq i) in subst Fitting m fit

  pub joined_low : q < length hs → parts_below (length hs) (Joined k p q) ≡ true
  joined_low hq = and_from _ _ (lt-ltb p _ (omega (arith, first.within, ap length second, entered_long gs g))) (lt-ltb q _ hq)

  pub joined_room : (cap : ℕ) → length fs + (joins f + joins g + 1) ≤ cap → length hs < cap
  joined_room cap room = omega (arith, entered_long fs f, entered_long gs g, ap length second, ap length first.held)

-- a text that can be entered has parts that can be
module _ {s : List ℕ} {at : ℕ} {fs : List Formula} {cap : ℕ} (pre : Enterable s at fs cap) where
  module _ (n : AtNot s at pre.end pre.formula) where
    pub not_fits : Fitting (joined Implies n.part falsum)
    not_fits = subst Fitting n.formula pre.fitting

    pub not_room : length fs + (joins n.part + 0 + 1) ≤ cap
    not_room = subst (λ f. length fs + joins f ≤ cap) n.formula pre.room

    pub not_enterable : Enterable s (at + 1) fs cap
    not_enterable = record {
      formula = n.part;
      end = pre.end;
      stands = n.stands;
      fitting = (fitting_parts Implies n.part falsum not_fits).0;
      room = omega (arith, not_room);
    }

  module _ (o : AtOpen s at pre.end pre.formula) where
    pub open_fits : Fitting (joined o.connective o.first o.second)
    open_fits = subst Fitting o.formula pre.fitting

    pub open_room : length fs + (joins o.first + joins o.second + 1) ≤ cap
    open_room = subst (λ f. length fs + joins f ≤ cap) o.formula pre.room

    pub first_enterable : Enterable s (at + 1) fs cap
    first_enterable = record {
      formula = o.first;
      end = o.mid;
      stands = o.one;
      fitting = (fitting_parts o.connective o.first o.second open_fits).0;
      room = omega (arith, open_room);
    }

    pub second_enterable : (end : ℕ) → end ≡ o.mid → (gs : List Formula) → gs ≡ entered fs o.first → (cap' : ℕ) → cap' ≡ cap → Enterable s (end + 1) gs cap'
    second_enterable end e gs held cap' c = record {
      formula = o.second;
      end = o.stop;
      stands = subst (λ m. Stands s (m + 1) o.stop o.second) (sym e) o.two;
      fitting = (fitting_parts o.connective o.first o.second open_fits).1;
      room = omega (arith, open_room, c, ap length held, entered_long fs o.first);
    }
