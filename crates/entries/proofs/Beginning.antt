-- The fields before a fault begin a record in form.
use Rattle.std.proofs.Common.{inl, inr, ◌≡◌, ℕ, zero, suc, ◌+◌, ◌-◌, ◌<◌, ◌≤◌, List, [], ◌∷◌, ◌++◌, take, length, map, Err, refl, sym, ap, ◌∙◌, subst, append-nil, arith}
use Rattle.std.proofs.lemmas.List.Elements.{All-nil, All-cons}
use Rattle.std.specs.List.{All}
use Rattle.std.specs.Fmt.{decimal}
use Rattle.fitch.specs.Names.{name_of}
use Rattle.fitch.specs.declared.mode.Mode.TheVariants.{Constructive}
use Rattle.fitch.specs.declared.rule.Rule.TheVariants.{Reiterate}
use Rattle.records.specs.Numbers.{number}
use Rattle.entries.proofs.Faults.{numbers_late, last_late, citations_late, form_late}
use Rattle.entries.proofs.Fielding.{rule_is, mode_is, kind_is, letter_is, number_is}
use Rattle.entries.proofs.Saying.{by_kind_named, two, behind}
use Rattle.entries.proofs.Steps.{same_Err, onto_err, given_err, alone_err}
use Rattle.entries.specs.Entries.{Said}
use Rattle.entries.specs.Forms.{text, numbers, citations, step_form, one_number, last_number, form, kind_named, entry_form}
use Rattle.entries.specs.InTurn.{kind_said}
use Rattle.entries.specs.Kinds.{byte_of, rule_named, mode_named, mode_letter, letter}
use Rattle.entries.specs.Turns.{follow}
use Rattle.entries.specs.Written.{fields_of, Short, InForm, Begins}
use Rattle.entries.specs.declared.kind.Kind.{Kind}
use Rattle.entries.specs.declared.kind.Kind.TheVariants as kinds
use Rattle.entries.specs.declared.turn.Format.{Format}
use Rattle.entries.specs.declared.turn.Turn.{Turn}
use Rattle.entries.specs.declared.turn.Turn.TheVariants.{Start, Premises, Body, Parted, First, Second, Layered, Values}

short_zero : Short 0
short_zero = (number_is (48 ∷ []) 0 refl).1

one_zero : All Short (0 ∷ [])
one_zero = All-cons Short 0 [] short_zero (All-nil Short)

take_one : (k j : ℕ) (f : List ℕ) (fs : List (List ℕ)) → k ≡ j + 1 → take k (f ∷ fs) ≡ f ∷ take j fs
take_one zero j f fs e = absurd (omega (arith, e))
take_one (suc k) j f fs e = ap (λ i. f ∷ take i fs) (omega (arith, e))

take_none : (k : ℕ) (fs : List (List ℕ)) → k ≡ 0 → take k fs ≡ []
take_none k fs e = ap (λ i. take i fs) e

-- the citations before field n, of which the first is in field k
Cites : ℕ → ℕ → List (List ℕ) → ℕ → Type 0
Cites k most fs n = (n < k + length fs) × (cs : List ℕ) × (take (n - k) fs ≡ map decimal cs) × (length cs ≤ most) × All Short cs

before_numbers : (k most : ℕ) (fs : List (List ℕ)) (n : ℕ) → numbers k most fs ≡ Err n → Cites k most fs n
unfolding Cites
before_numbers k most [] n e = absurd (cc)
before_numbers k zero (f ∷ fs) n e = let here : k ≡ n = same_Err e in (omega (arith, here), [], take_none (n - k) (f ∷ fs) (omega (arith, here)), omega arith, All-nil Short)
before_numbers k (suc most) (f ∷ fs) n e = elim (given_err k (number f) _ e) [
  | inl here ↦ (omega (arith, here), [], take_none (n - k) (f ∷ fs) (omega (arith, here)), omega arith, All-nil Short)
  | inr (v, first, e1) ↦
      let e2 = onto_err (λ vs. v ∷ vs) (numbers (k + 1) most fs) e1 in
      let later : k < n = numbers_late k (k + 1) most (omega arith) fs n e2 in
      let (there, cs, same, few, all) = before_numbers (k + 1) most fs n e2 in
      let (dec, short) = number_is f v first in
      (omega (arith, there), v ∷ cs, take_one (n - k) (n - (k + 1)) f fs (omega (arith, later)) ∙ two dec same, omega (arith, few), All-cons Short v cs short all)
]

-- the fields before field n are the first citations of some
Cited : List (List ℕ) → ℕ → Type 0
Cited fs n = (n ≤ length fs + 4) × (rest : List (List ℕ)) × (cs : List ℕ) × (take (n - 4) fs ++ rest ≡ map decimal cs) × (1 ≤ length cs) × (length cs ≤ 3) × All Short cs

before_citations : (fs : List (List ℕ)) (n : ℕ) → citations fs ≡ Err n → Cited fs n
unfolding Cites Cited
before_citations [] n e = subst (Cited []) (same_Err e) (omega arith, decimal 0 ∷ [], 0 ∷ [], refl, omega arith, omega arith, one_zero)
before_citations (f ∷ fs) n e = filled (before_numbers 4 3 (f ∷ fs) n e)
  where
    filled : Cites 4 3 (f ∷ fs) n → Cited (f ∷ fs) n
    filled (there, [], same, few, all) = (omega (arith, there), decimal 0 ∷ [], 0 ∷ [], ap (λ us. us ++ decimal 0 ∷ []) same, omega arith, omega arith, one_zero)
    filled (there, c ∷ cs, same, few, all) = (omega (arith, there), [], c ∷ cs, append-nil _ ∙ same, omega arith, few, all)

-- a text in field 2, the last
abbrev Texted : List (List ℕ) → ℕ → Type 0
Texted fs n = (n ≤ length fs + 2) × (rest : List (List ℕ)) × (t : List ℕ) × (take (n - 2) fs ++ rest ≡ t ∷ [])

-- a number in field k, the last
abbrev Numbered : ℕ → List (List ℕ) → ℕ → Type 0
Numbered k fs n = (n ≤ length fs + k) × (rest : List (List ℕ)) × (v : ℕ) × (take (n - k) fs ++ rest ≡ decimal v ∷ []) × Short v

before_text : (fs : List (List ℕ)) (n : ℕ) → text fs ≡ Err n → Texted fs n
before_text [] n e = subst (Texted []) (same_Err e) (omega arith, [] ∷ [], [], refl)
before_text (f ∷ fs) n e = let (here, some) = alone_err f 3 fs e in subst (Texted (f ∷ fs)) here (omega (arith, some), [], f, refl)

before_one : (fs : List (List ℕ)) (n : ℕ) → one_number fs ≡ Err n → Numbered 2 fs n
before_one [] n e = subst (Numbered 2 []) (same_Err e) (omega arith, decimal 0 ∷ [], 0, refl, short_zero)
before_one (f ∷ fs) n e = elim (given_err 2 (number f) _ e) [
  | inl here ↦ subst (Numbered 2 (f ∷ fs)) here (omega arith, decimal 0 ∷ [], 0, refl, short_zero)
  | inr (v, first, e1) ↦
      let (here, some) = alone_err v 3 fs e1 in
      let (dec, short) = number_is f v first in
      subst (Numbered 2 (f ∷ fs)) here (omega (arith, some), [], v, two dec refl, short)
]

before_last : {A B : Type 0} (join : A → ℕ → B) (a : A) (fs : List (List ℕ)) (n : ℕ) → last_number join a fs ≡ Err n → Numbered 3 fs n
before_last join a [] n e = subst (Numbered 3 []) (same_Err e) (omega arith, decimal 0 ∷ [], 0, refl, short_zero)
before_last join a (f ∷ fs) n e = elim (given_err 3 (number f) _ e) [
  | inl here ↦ subst (Numbered 3 (f ∷ fs)) here (omega arith, decimal 0 ∷ [], 0, refl, short_zero)
  | inr (v, first, e1) ↦
      let (here, some) = alone_err (join a v) 4 fs e1 in
      let (dec, short) = number_is f v first in
      subst (Numbered 3 (f ∷ fs)) here (omega (arith, some), [], v, two dec refl, short)
]

-- the fields before field n are the first, behind the kind, of a record in form
abbrev Extends : Kind → List (List ℕ) → ℕ → Type 0
Extends k fs n =
    (n ≤ length fs + 2) × (rest : List (List ℕ)) × (x : Said (List ℕ)) × (k ≡ kind_said x) × ((byte_of k ∷ []) ∷ (take (n - 2) fs ++ rest) ≡ fields_of x) × InForm x

before_step : (fs : List (List ℕ)) (n : ℕ) → step_form fs ≡ Err n → Extends kinds.Step fs n
unfolding Cited
before_step [] n e = subst (Extends kinds.Step []) (same_Err e) (omega arith, [] ∷ name_of Reiterate ∷ decimal 0 ∷ [], Said.step [] Reiterate (0 ∷ []), refl, refl, (omega arith, omega arith, one_zero))
before_step (f ∷ []) n e = subst (Extends kinds.Step (f ∷ [])) (same_Err e) (omega arith, name_of Reiterate ∷ decimal 0 ∷ [], Said.step f Reiterate (0 ∷ []), refl, refl, (omega arith, omega arith, one_zero))
before_step (f ∷ r ∷ fs) n e = elim (given_err 3 (rule_named r) _ e) [
  | inl here ↦ subst (Extends kinds.Step (f ∷ r ∷ fs)) here (omega arith, name_of Reiterate ∷ decimal 0 ∷ [], Said.step f Reiterate (0 ∷ []), refl, refl, (omega arith, omega arith, one_zero))
  | inr (rule, named, e1) ↦
      let e2 = onto_err (Said.step f rule) (citations fs) e1 in
      let later : 3 < n = citations_late 3 (omega arith) fs n e2 in
      let (there, rest, cs, same, some, few, all) = before_citations fs n e2 in
      let front : take (n - 2) (f ∷ r ∷ fs) ≡ f ∷ r ∷ take (n - 4) fs = take_one (n - 2) (n - 3) f (r ∷ fs) (omega (arith, later)) ∙ two refl (take_one (n - 3) (n - 4) r fs (omega (arith, later))) in
      (omega (arith, there), rest, Said.step f rule cs, refl, behind kinds.Step (ap (λ us. us ++ rest) front ∙ two refl (two (rule_is r rule named) same)), (some, few, all))
]

-- a field that was read, and a number that is due in the next
module _ {A : Type 0} (k : Kind) (join : A → ℕ → Said (List ℕ)) (a : A) (f : List ℕ) (fs : List (List ℕ)) (n : ℕ) where
  with_number :
      last_number join a fs ≡ Err n
      → ((v : ℕ) → Short v → (k ≡ kind_said (join a v)) × ((byte_of k ∷ []) ∷ f ∷ decimal v ∷ [] ≡ fields_of (join a v)) × InForm (join a v))
      → Extends k (f ∷ fs) n
  with_number e joined =
      let later : 2 < n = last_late 2 join a (omega arith) fs n e in
      let (there, rest, v, same, short) = before_last join a fs n e in
      let (kind, fields, proper) = joined v short in
      (omega (arith, there), rest, join a v, kind, behind k (ap (λ us. us ++ rest) (take_one (n - 2) (n - 3) f fs (omega (arith, later))) ∙ two refl same) ∙ fields, proper)

before_form : (k : Kind) (fs : List (List ℕ)) (n : ℕ) → form k fs ≡ Err n → Extends k fs n
before_form kinds.Mode [] n e = subst (Extends kinds.Mode []) (same_Err e) (omega arith, mode_letter Constructive ∷ [], Said.mode Constructive, refl, refl, tt)
before_form kinds.Mode (f ∷ fs) n e = elim (given_err 2 (mode_named f) _ e) [
  | inl here ↦ subst (Extends kinds.Mode (f ∷ fs)) here (omega arith, mode_letter Constructive ∷ [], Said.mode Constructive, refl, refl, tt)
  | inr (m, named, e1) ↦
      let (here, some) = alone_err (Said.mode m) 3 fs e1 in
      subst (Extends kinds.Mode (f ∷ fs)) here (omega (arith, some), [], Said.mode m, refl, behind kinds.Mode (two (mode_is f m named) refl), tt)
]
before_form kinds.Premise fs n e = let (there, rest, t, same) = before_text fs n (onto_err Said.premise (text fs) e) in (there, rest, Said.premise t, refl, behind kinds.Premise same, tt)
before_form kinds.Assume fs n e = let (there, rest, t, same) = before_text fs n (onto_err Said.assume (text fs) e) in (there, rest, Said.assume t, refl, behind kinds.Assume same, tt)
before_form kinds.Step fs n e = before_step fs n e
before_form kinds.Close fs n e = let (here, some) = alone_err Said.close 2 fs e in subst (Extends kinds.Close fs) here (omega arith, [], Said.close, refl, refl, tt)
before_form kinds.Separator fs n e = let (here, some) = alone_err Said.separator 2 fs e in subst (Extends kinds.Separator fs) here (omega arith, [], Said.separator, refl, refl, tt)
before_form kinds.Base fs n e = let (there, rest, v, same, short) = before_one fs n (onto_err Said.base (one_number fs) e) in (there, rest, Said.base v, refl, behind kinds.Base same, short)
before_form kinds.Pair [] n e = subst (Extends kinds.Pair []) (same_Err e) (omega arith, decimal 0 ∷ decimal 0 ∷ [], Said.pair 0 0, refl, refl, (short_zero, short_zero))
before_form kinds.Pair (f ∷ fs) n e = elim (given_err 2 (number f) _ e) [
  | inl here ↦ subst (Extends kinds.Pair (f ∷ fs)) here (omega arith, decimal 0 ∷ decimal 0 ∷ [], Said.pair 0 0, refl, refl, (short_zero, short_zero))
  | inr (u, first, e1) ↦ let (dec, short_u) = number_is f u first in with_number kinds.Pair Said.pair u f fs n e1 (λ v short. (refl, behind kinds.Pair (two dec refl), (short_u, short)))
]
before_form kinds.Nucleus fs n e = let (there, rest, v, same, short) = before_one fs n (onto_err Said.nucleus (one_number fs) e) in (there, rest, Said.nucleus v, refl, behind kinds.Nucleus same, short)
before_form kinds.Value [] n e = subst (Extends kinds.Value []) (same_Err e) (omega arith, (97 ∷ []) ∷ decimal 0 ∷ [], Said.value 97 0, refl, refl, (omega arith, omega arith, short_zero))
before_form kinds.Value (f ∷ fs) n e = elim (given_err 2 (letter f) _ e) [
  | inl here ↦ subst (Extends kinds.Value (f ∷ fs)) here (omega arith, (97 ∷ []) ∷ decimal 0 ∷ [], Said.value 97 0, refl, refl, (omega arith, omega arith, short_zero))
  | inr (a, first, e1) ↦ let (byte, low, high) = letter_is f a first in with_number kinds.Value Said.value a f fs n e1 (λ v short. (refl, behind kinds.Value (two byte refl), (low, high, short)))
]

-- in each turn some record may come
some_record : (format : Format) (turn : Turn) → Begins format turn []
some_record format Start = (_, Said.mode Constructive, _, refl, tt, refl)
some_record format Premises = (_, Said.premise [], _, refl, tt, refl)
some_record format Body = (_, Said.close, _, refl, tt, refl)
some_record format Parted = (_, Said.base 0, _, refl, short_zero, refl)
some_record format First = (_, Said.base 0, _, refl, short_zero, refl)
some_record format Second = (_, Said.nucleus 0, _, refl, short_zero, refl)
some_record format Layered = (_, Said.value 97 0, _, refl, (omega arith, omega arith, short_zero), refl)
some_record format Values = (_, Said.value 97 0, _, refl, (omega arith, omega arith, short_zero), refl)

pub before : (format : Format) (turn : Turn) (fs : List (List ℕ)) (n : ℕ) → entry_form format turn fs ≡ Err n → (n ≤ length fs + 1) × Begins format turn (take (n - 1) fs)
before format turn [] n e = subst (λ m. (m ≤ length {A = List ℕ} [] + 1) × Begins format turn (take (m - 1) [])) (same_Err e) (omega arith, some_record format turn)
before format turn (f ∷ fs) n e = elim (given_err 1 (kind_named f) _ (sym (by_kind_named format turn f fs) ∙ e)) [
  | inl here ↦ first here
  | inr (k, named, e1) ↦ elim (given_err 1 (follow format turn k) _ e1) [
    | inl here ↦ first here
    | inr (next, comes, e2) ↦
        let e3 = onto_err (λ y. (y, next)) (form k fs) e2 in
        let later : 1 < n = form_late k fs n e3 in
        let (there, rest, x, kind, same, proper) = before_form k fs n e3 in
        let front : take (n - 1) (f ∷ fs) ≡ (byte_of k ∷ []) ∷ take (n - 2) fs = take_one (n - 1) (n - 2) f fs (omega (arith, later)) ∙ two (kind_is f k named) refl in
        (omega (arith, there), (rest, x, next, ap (λ us. us ++ rest) front ∙ same, proper, ap (follow format turn) (sym kind) ∙ comes))
  ]
]
  where
    first : 1 ≡ n → (n ≤ length (f ∷ fs) + 1) × Begins format turn (take (n - 1) (f ∷ fs))
    first here = subst (λ m. (m ≤ length (f ∷ fs) + 1) × Begins format turn (take (m - 1) (f ∷ fs))) here (omega arith, some_record format turn)
