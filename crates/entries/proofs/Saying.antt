-- What fields say of a thing is how it is written.
use Rattle.std.proofs.Common.{◌≡◌, ℕ, zero, suc, ◌+◌, ◌≤◌, List, [], ◌∷◌, length, map, Some, Ok, refl, sym, ap, ◌∙◌, subst, arith}
use Rattle.std.proofs.lemmas.List.Elements.{All-nil, All-cons}
use Rattle.std.specs.List.{All}
use Rattle.std.specs.Fmt.{decimal}
use Rattle.records.specs.Numbers.{number}
use Rattle.entries.proofs.Steps.{same_Ok, onto_ok, given_ok, alone_ok, given_map}
use Rattle.entries.proofs.Fielding.{rule_is, mode_is, kind_is, letter_is, number_is}
use Rattle.entries.specs.Entries.{Said}
use Rattle.entries.specs.Forms.{onto, given, text, numbers, citations, step_form, one_number, last_number, form, kind_named, entry_form}
use Rattle.entries.specs.InTurn.{kind_said}
use Rattle.entries.specs.Kinds.{byte_of, rule_named, mode_named, letter}
use Rattle.entries.specs.Turns.{follow}
use Rattle.entries.specs.Written.{fields_of, Short, InForm}
use Rattle.entries.specs.declared.kind.Kind.{Kind}
use Rattle.entries.specs.declared.kind.Kind.TheVariants as kinds
use Rattle.entries.specs.declared.turn.Format.{Format}
use Rattle.entries.specs.declared.turn.Turn.{Turn}

text_is : (fs : List (List ℕ)) (t : List ℕ) → text fs ≡ Ok t → fs ≡ t ∷ []
text_is [] t e = absurd (cc)
text_is (f ∷ fs) t e = let (none, same) = alone_ok f 3 fs e in ap (λ gs. f ∷ gs) none ∙ ap (λ g. g ∷ []) same

Cites : ℕ → List (List ℕ) → List ℕ → Type 0
Cites most fs cs = (fs ≡ map decimal cs) × (length cs ≤ most) × All Short cs

numbers_are : (n most : ℕ) (fs : List (List ℕ)) (cs : List ℕ) → numbers n most fs ≡ Ok cs → Cites most fs cs
unfolding Cites
numbers_are n most [] cs e = subst (Cites most []) (same_Ok e) (refl, omega arith, All-nil Short)
numbers_are n zero (f ∷ fs) cs e = absurd (cc)
numbers_are n (suc most) (f ∷ fs) cs e =
    let (v, first, e1) = given_ok n (number f) _ e in
    let (vs, e2, same) = onto_ok (λ ws. v ∷ ws) (numbers (n + 1) most fs) e1 in
    let (dec, short) = number_is f v first in
    let (rest, few, all) = numbers_are (n + 1) most fs vs e2 in
    subst (Cites (suc most) (f ∷ fs)) same (ap (λ g. g ∷ fs) dec ∙ ap (λ gs. decimal v ∷ gs) rest, omega (arith, few), All-cons Short v vs short all)

some_cited : (f : List ℕ) (fs : List (List ℕ)) (cs : List ℕ) → f ∷ fs ≡ map decimal cs → 1 ≤ length cs
some_cited f fs [] e = absurd (cc)
some_cited f fs (c ∷ cs) e = omega arith

citations_are : (fs : List (List ℕ)) (cs : List ℕ) → citations fs ≡ Ok cs → (fs ≡ map decimal cs) × (1 ≤ length cs) × (length cs ≤ 3) × All Short cs
unfolding Cites
citations_are [] cs e = absurd (cc)
citations_are (f ∷ fs) cs e = let (same, few, all) = numbers_are 4 3 (f ∷ fs) cs e in (same, some_cited f fs cs same, few, all)

one_number_is : (fs : List (List ℕ)) (n : ℕ) → one_number fs ≡ Ok n → (fs ≡ decimal n ∷ []) × Short n
one_number_is [] n e = absurd (cc)
one_number_is (f ∷ fs) n e =
    let (m, first, e1) = given_ok 2 (number f) _ e in
    let (none, same) = alone_ok m 3 fs e1 in
    let (dec, short) = number_is f m first in
    subst (λ k. (f ∷ fs ≡ decimal k ∷ []) × Short k) same (ap (λ gs. f ∷ gs) none ∙ ap (λ g. g ∷ []) dec, short)

last_number_is : {A B : Type 0} (join : A → ℕ → B) (a : A) (fs : List (List ℕ)) (b : B) → last_number join a fs ≡ Ok b → (n : ℕ) × (join a n ≡ b) × (fs ≡ decimal n ∷ []) × Short n
last_number_is join a [] b e = absurd (cc)
last_number_is join a (f ∷ fs) b e =
    let (m, first, e1) = given_ok 3 (number f) _ e in
    let (none, same) = alone_ok (join a m) 4 fs e1 in
    let (dec, short) = number_is f m first in
    (m, same, ap (λ gs. f ∷ gs) none ∙ ap (λ g. g ∷ []) dec, short)

-- x is of kind k and in form, and the fields behind its kind are fs
abbrev Is : Kind → List (List ℕ) → Said (List ℕ) → Type 0
Is k fs x = (k ≡ kind_said x) × ((byte_of k ∷ []) ∷ fs ≡ fields_of x) × InForm x

pub behind : (k : Kind) {fs gs : List (List ℕ)} → fs ≡ gs → (byte_of k ∷ []) ∷ fs ≡ (byte_of k ∷ []) ∷ gs
behind k e = ap (λ hs. (byte_of k ∷ []) ∷ hs) e

pub two : {f g : List ℕ} {fs gs : List (List ℕ)} → f ≡ g → fs ≡ gs → f ∷ fs ≡ g ∷ gs
two {f} {g} {fs} {gs} e d = ap (λ h. h ∷ fs) e ∙ ap (λ hs. g ∷ hs) d

step_is : (fs : List (List ℕ)) (x : Said (List ℕ)) → step_form fs ≡ Ok x → Is kinds.Step fs x
step_is [] x e = absurd (cc)
step_is (f ∷ []) x e = absurd (cc)
step_is (f ∷ r ∷ fs) x e =
    let (rule, named, e1) = given_ok 3 (rule_named r) _ e in
    let (cs, e2, same) = onto_ok (Said.step f rule) (citations fs) e1 in
    let (cited, some, few, all) = citations_are fs cs e2 in
    subst (Is kinds.Step (f ∷ r ∷ fs)) same (refl, behind kinds.Step (two refl (two (rule_is r rule named) cited)), (some, few, all))

form_is : (k : Kind) (fs : List (List ℕ)) (x : Said (List ℕ)) → form k fs ≡ Ok x → Is k fs x
form_is kinds.Mode [] x e = absurd (cc)
form_is kinds.Mode (f ∷ fs) x e =
    let (m, named, e1) = given_ok 2 (mode_named f) _ e in
    let (none, same) = alone_ok (Said.mode m) 3 fs e1 in
    subst (Is kinds.Mode (f ∷ fs)) same (refl, behind kinds.Mode (two (mode_is f m named) none), tt)
form_is kinds.Premise fs x e =
    let (t, e1, same) = onto_ok Said.premise (text fs) e in
    subst (Is kinds.Premise fs) same (refl, behind kinds.Premise (text_is fs t e1), tt)
form_is kinds.Assume fs x e =
    let (t, e1, same) = onto_ok Said.assume (text fs) e in
    subst (Is kinds.Assume fs) same (refl, behind kinds.Assume (text_is fs t e1), tt)
form_is kinds.Step fs x e = step_is fs x e
form_is kinds.Close fs x e = let (none, same) = alone_ok Said.close 2 fs e in subst (Is kinds.Close fs) same (refl, behind kinds.Close none, tt)
form_is kinds.Separator fs x e = let (none, same) = alone_ok Said.separator 2 fs e in subst (Is kinds.Separator fs) same (refl, behind kinds.Separator none, tt)
form_is kinds.Base fs x e =
    let (n, e1, same) = onto_ok Said.base (one_number fs) e in
    let (dec, short) = one_number_is fs n e1 in
    subst (Is kinds.Base fs) same (refl, behind kinds.Base dec, short)
form_is kinds.Pair [] x e = absurd (cc)
form_is kinds.Pair (f ∷ fs) x e =
    let (u, first, e1) = given_ok 2 (number f) _ e in
    let (v, same, last, short_v) = last_number_is Said.pair u fs x e1 in
    let (dec, short_u) = number_is f u first in
    subst (Is kinds.Pair (f ∷ fs)) same (refl, behind kinds.Pair (two dec last), (short_u, short_v))
form_is kinds.Nucleus fs x e =
    let (n, e1, same) = onto_ok Said.nucleus (one_number fs) e in
    let (dec, short) = one_number_is fs n e1 in
    subst (Is kinds.Nucleus fs) same (refl, behind kinds.Nucleus dec, short)
form_is kinds.Value [] x e = absurd (cc)
form_is kinds.Value (f ∷ fs) x e =
    let (a, first, e1) = given_ok 2 (letter f) _ e in
    let (v, same, last, short) = last_number_is Said.value a fs x e1 in
    let (byte, low, high) = letter_is f a first in
    subst (Is kinds.Value (f ∷ fs)) same (refl, behind kinds.Value (two byte last), (low, high, short))

-- by the kind of a record
pub by_kind_named : (format : Format) (turn : Turn) (f : List ℕ) (fs : List (List ℕ)) → entry_form format turn (f ∷ fs) ≡ given 1 (kind_named f) (λ k. given 1 (follow format turn k) (λ t. onto (λ y. (y, t)) (form k fs)))
by_kind_named format turn f fs = given_map 1 (λ k. (k, fs)) (kind_named f) _

module _ (format : Format) (turn next : Turn) (x : Said (List ℕ)) where
  of_kind : (f : List ℕ) (fs : List (List ℕ)) → entry_form format turn (f ∷ fs) ≡ Ok (x, next) → (k : Kind) × (kind_named f ≡ Some k) × (follow format turn k ≡ Some next) × (form k fs ≡ Ok x)
  of_kind f fs e =
      let (k, named, e1) = given_ok 1 (kind_named f) _ (sym (by_kind_named format turn f fs) ∙ e) in
      let (t, comes, e2) = given_ok 1 (follow format turn k) _ e1 in
      let (y, said, both) = onto_ok (λ z. (z, t)) (form k fs) e2 in
      (k, named, comes ∙ ap (λ p. Some p.1) both, said ∙ ap (λ p. Ok p.0) both)

  pub is_written : (fs : List (List ℕ)) → entry_form format turn fs ≡ Ok (x, next) → (fs ≡ fields_of x) × InForm x × (follow format turn (kind_said x) ≡ Some next)
  is_written [] e = absurd (cc)
  is_written (f ∷ fs) e =
      let (k, named, comes, said) = of_kind f fs e in
      let (kind, same, proper) = form_is k fs x said in
      (two (kind_is f k named) refl ∙ same, proper, ap (follow format turn) (sym kind) ∙ comes)
