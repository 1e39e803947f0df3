-- A reading has one answer: what is known of a text says which.
use Rattle.std.proofs.Common.{◌≡◌, ℕ, ◌+◌, ◌<◌, ◌≤◌, ◌⊎◌, List, length, Ok, Err, Result, MatchResult, sym, refl, ap, ◌∙◌, subst, inl, inr, arith}
use Rattle.grammar.specs.Formula.{Formula, nesting}
use Rattle.grammar.specs.Symbols.{signs}
use Rattle.grammar.specs.Texts.{Text, NoFormula}
use Rattle.grammar.specs.WrittenText.{text}
use Rattle.grammar.specs.Contents.{formula_at, entered, Fitting, Once}
use Rattle.grammar.specs.Reading.{Readable, Enters, Refused, Read, OneAnswer}
use Rattle.grammar.specs.Writing.{HeldAt, ReadsBack}
use Rattle.grammar.specs.declared.refusal.Refusal.{Refusal}
use Rattle.grammar.specs.declared.refusal.Refusal.TheVariants.{FewRecords, LongText, NotFormula, DeepFormula, RecordsWanting, ShortBuffer, NotStored}
use Rattle.grammar.proofs.Adding.{entered_long, entered_keeps, entered_once}
use Rattle.grammar.proofs.FirstPlaces.{one_first_wrong}
use Rattle.grammar.proofs.Measures.{is_text}
use Rattle.grammar.proofs.Sameness.{one_place}
use Rattle.grammar.proofs.Unambiguity.{unambiguous}

-- a text of one formula nests as deep as that formula
same_nesting : {f g : Formula} {s : List ℕ} → Text f s → Text g s → nesting f ≡ nesting g
same_nesting x y = ap nesting (unambiguous.one_formula x y)

module _ (s : List ℕ) (capacity : ℕ) (fs gs : List Formula) where
  abbrev Answered : Result ℕ Refusal → Type 0
  Answered a = Read s capacity fs gs a

  pub too_long : 1024 < length s → (a : Result ℕ Refusal) → Answered a → a ≡ Err LongText
  too_long h (Ok p) w = absurd (omega (arith, w.0.1.short))
  too_long h (Err FewRecords) w = absurd w.0
  too_long h (Err LongText) w = refl
  too_long h (Err (NotFormula i)) w = absurd (omega (arith, w.0.0))
  too_long h (Err DeepFormula) w = absurd (omega (arith, w.0.0))
  too_long h (Err RecordsWanting) w = absurd (omega (arith, w.0.0.1.short))
  too_long h (Err ShortBuffer) w = absurd w.0
  too_long h (Err NotStored) w = absurd w.0

  module _ (short : length s ≤ 1024) where
    pub no_formula : (i : ℕ) → NoFormula s i → (a : Result ℕ Refusal) → Answered a → a ≡ Err (NotFormula i)
    no_formula i n (Ok p) w = absurd (n.none _ w.0.1.text)
    no_formula i n (Err FewRecords) w = absurd w.0
    no_formula i n (Err LongText) w = absurd (omega (arith, w.0))
    no_formula i n (Err (NotFormula j)) w = ap (λ k. Err (NotFormula k)) (one_first_wrong s j i w.0.1.first n.first)
    no_formula i n (Err DeepFormula) w = absurd (n.none _ w.0.1.1)
    no_formula i n (Err RecordsWanting) w = absurd (n.none _ w.0.0.1.text)
    no_formula i n (Err ShortBuffer) w = absurd w.0
    no_formula i n (Err NotStored) w = absurd w.0

    pub too_deep : (f : Formula) → Text f s → 32 < nesting f → (a : Result ℕ Refusal) → Answered a → a ≡ Err DeepFormula
    too_deep f x h (Ok p) w = absurd (omega (arith, w.0.1.shallow, same_nesting x w.0.1.text))
    too_deep f x h (Err FewRecords) w = absurd w.0
    too_deep f x h (Err LongText) w = absurd (omega (arith, w.0))
    too_deep f x h (Err (NotFormula i)) w = absurd (w.0.1.none f x)
    too_deep f x h (Err DeepFormula) w = refl
    too_deep f x h (Err RecordsWanting) w = absurd (omega (arith, w.0.0.1.shallow, same_nesting x w.0.0.1.text))
    too_deep f x h (Err ShortBuffer) w = absurd w.0
    too_deep f x h (Err NotStored) w = absurd w.0

  -- a text that can be read
  module _ (f : Formula) (r : Readable s f) where
    -- it enters its formula, unless records are wanting
    enters : (a : Result ℕ Refusal) → Answered a → MatchResult a (Enters fs gs f) (λ e. e ≡ RecordsWanting)
    enters (Ok p) w = subst (λ g. Enters fs gs g p) (unambiguous.one_formula w.0.1.text r.text) w.0.2
    enters (Err FewRecords) w = absurd w.0
    enters (Err LongText) w = absurd (omega (arith, w.0, r.short))
    enters (Err (NotFormula i)) w = absurd (w.0.1.none f r.text)
    enters (Err DeepFormula) w = absurd (omega (arith, w.0.1.2, r.shallow, same_nesting r.text w.0.1.1))
    enters (Err RecordsWanting) w = refl
    enters (Err ShortBuffer) w = absurd w.0
    enters (Err NotStored) w = absurd w.0

    pub wanting : capacity < length fs + signs s → (a : Result ℕ Refusal) → Answered a → a ≡ Err RecordsWanting
    wanting h (Ok p) w = absurd (omega (arith, w.1))
    wanting h (Err e) w = ap Err (enters (Err e) w)

    held : (a : Result ℕ Refusal) → Answered a → MatchResult a (HeldAt gs f) (λ e. e ≡ RecordsWanting)
    held (Ok p) w = let e = enters (Ok p) w in (e.within, e.found)
    held (Err e) w = enters (Err e) w

    -- the place of its formula is one
    module _ (p : ℕ) (once : Once fs) (there : HeldAt (entered fs f) f p) where
      one_entry : (q : ℕ) → Enters fs gs f q → q ≡ p
      one_entry q e =
          one_place (entered fs f) (entered_once fs f once) q p (omega (arith, e.within, ap length e.held)) there.0 (ap (λ k. formula_at k q) (sym e.held) ∙ e.found ∙ sym there.1)

      kept : (a : Result ℕ Refusal) → Answered a → (a ≡ Ok p) ⊎ (a ≡ Err RecordsWanting)
      kept (Ok q) w = inl (ap Ok (one_entry q (enters (Ok q) w)))
      kept (Err e) w = inr (ap Err (enters (Err e) w))

      -- and records are not wanting where there is room
      pub reads_at : length fs + signs s ≤ capacity → (a : Result ℕ Refusal) → Answered a → a ≡ Ok p
      reads_at room (Ok q) w = ap Ok (one_entry q (enters (Ok q) w))
      reads_at room (Err e) w = let v = subst (Refused s capacity fs) (enters (Err e) w) w.0 in absurd (omega (arith, v.1))

module _ (s : List ℕ) (capacity : ℕ) (fs gs hs : List Formula) (once : Once fs) where
  agree : (a b : Result ℕ Refusal) → Read s capacity fs gs a → Read s capacity fs hs b → b ≡ a
  agree (Ok p) b w v =
      let e = w.0.2 in
      reads_at s capacity fs hs w.0.0 w.0.1 p once (omega (arith, e.within, ap length e.held), ap (λ l. formula_at l p) (sym e.held) ∙ e.found) w.1 b v
  agree (Err FewRecords) b w v = absurd w.0
  agree (Err LongText) b w v = too_long s capacity fs hs w.0 b v
  agree (Err (NotFormula i)) b w v = no_formula s capacity fs hs w.0.0 i w.0.1 b v
  agree (Err DeepFormula) b w v = too_deep s capacity fs hs w.0.0 w.0.1.0 w.0.1.1 w.0.1.2 b v
  agree (Err RecordsWanting) b w v = wanting s capacity fs hs w.0.0.0 w.0.0.1 w.0.1 b v
  agree (Err ShortBuffer) b w v = absurd w.0
  agree (Err NotStored) b w v = absurd w.0

  same_contents : (a : Result ℕ Refusal) → Read s capacity fs gs a → Read s capacity fs hs a → gs ≡ hs
  same_contents (Ok p) w v = w.0.2.held ∙ ap (entered fs) (unambiguous.one_formula w.0.1.text v.0.1.text) ∙ sym v.0.2.held
  same_contents (Err e) w v = w.1 ∙ sym v.1

pub one_answer : OneAnswer
one_answer s capacity fs gs hs a b once w v =
    let e = agree s capacity fs gs hs once a b w v in
    (sym e, same_contents s capacity fs gs hs once a w (subst (Read s capacity fs hs) e v))

-- the written text of a formula that fits is read as that formula
pub reads_back : (f : Formula) → Fitting f → ReadsBack f (text f)
reads_back f fit capacity gs hs a once w =
    let r : Readable (text f) f = record { short = fit.1; text = is_text f fit.2; shallow = fit.0 } in
    record {
      held = held (text f) capacity gs hs f r a w;
      kept = λ p there. kept (text f) capacity gs hs f r p once (omega (arith, entered_long gs f, there.0), entered_keeps gs f p there.0 ∙ there.1) a w;
    }
