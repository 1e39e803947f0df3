-- A run of pairs or of values, as entries and as what they say.
use Rattle.std.proofs.Common.{◌≡◌, ℕ, suc, ◌<◌, ◌≤◌, true, false, List, [], ◌∷◌, map, length, get_or, take, drop, eqb, None, Option, Some, refl, sym, ap, ◌∙◌, subst, arith}
use Rattle.std.proofs.Math.Path.{ap₂}
use Rattle.std.specs.List.{take_while, list_all}
use Rattle.std.specs.Option.{MatchOption}
use Rattle.std.proofs.lemmas.Bool.{eqb-true, eq-eqb}
use Rattle.std.proofs.lemmas.List.{get_or-map, get_or_default, length-map}
use Rattle.std.proofs.lemmas.List.Sums.{take_while-cons}
use Rattle.entries.specs.Entries.{Said, stored}
use Rattle.entries.specs.declared.entry.Entry.{Entry}
use Rattle.entries.specs.declared.entry.Entry.TheVariants.{Pair, Close, Value}
use Rattle.algebra_files.specs.Cutting.{is_pair, is_value, gives, given_by}
use Rattle.entries.specs.AlgebraFiles.{pair_said, value_said}
use Rattle.algebra_files.specs.Meant.{Gives, LastFor, ElementFor}
use Rattle.algebra_files.specs.Reading.{pairs_in, after_pairs, values_in, after_values}
use Rattle.algebra_files.proofs.Written.{pairs_end, values_end}

pub front_pairs : (es : List (Entry ℕ)) → length (take_while is_pair es) ≡ length (pairs_in (map stored es))
front_pairs [] = refl
front_pairs (Pair u v ∷ es) = ap length (take_while-cons is_pair (Pair u v) es) ∙ ap suc (front_pairs es)
front_pairs (e ∷ es) = ap length (take_while-cons is_pair e es)

pub pairs_short : (es : List (Entry ℕ)) → length (pairs_in (map stored es)) ≤ length es
pairs_short [] = omega arith
pairs_short (Pair u v ∷ es) = omega (arith, pairs_short es)
pairs_short (e ∷ es) = omega arith

-- cut at the first entry that is no pair
pub record Cut (es : List (Entry ℕ)) (n : ℕ) : Type 0 where
  pub pairs : pairs_in (map stored (take n es)) ≡ pairs_in (map stored es)
  pub only : after_pairs (map stored (take n es)) ≡ []
  pub rest : map stored (drop n es) ≡ after_pairs (map stored es)

pub cut : (es : List (Entry ℕ)) → Cut es (length (pairs_in (map stored es)))
cut [] = record { pairs = refl; only = refl; rest = refl }
cut (Pair u v ∷ es) = let c = cut es in record { pairs = ap (λ ps. (u, v) ∷ ps) c.pairs; only = c.only; rest = c.rest }
cut (e ∷ es) = record { pairs = refl; only = refl; rest = refl }

pub values_only : (es : List (Entry ℕ)) → list_all is_value es ≡ true → after_values (map stored es) ≡ []
values_only [] all = refl
values_only (Value a e ∷ es) all = values_only es all
values_only (e ∷ es) all = cc

pub values_not_only : (es : List (Entry ℕ)) → list_all is_value es ≡ false → after_values (map stored es) ≡ [] → ⊥
values_not_only [] all only = cc
values_not_only (Value a e ∷ es) all only = values_not_only es all only
values_not_only (e ∷ es) all only = cc

-- entries that say a list of numbers, one by one
module _ (said : ℕ × ℕ → Said ℕ) (es : List (Entry ℕ)) (ps : List (ℕ × ℕ)) (is : map stored es ≡ map said ps) where
  same_length : length ps ≡ length es
  same_length = sym (length-map ps said) ∙ (ap length (sym is) ∙ length-map es stored)

  same_at : (k : ℕ) → k < length es → stored (get_or es k Close) ≡ said (get_or ps k (0, 0))
  same_at k within =
      let short : k < length ps = omega (arith, within, same_length) in
      sym (get_or-map stored es k Close Said.close within) ∙ (ap (λ xs. get_or xs k Said.close) is ∙ get_or-map said ps k (0, 0) Said.close short)

a_pair_of : (u v : ℕ) (p : ℕ × ℕ) → Said.pair u v ≡ pair_said p → p ≡ (u, v)
a_pair_of u v p is = let left : p.0 ≡ u = cc in let right : p.1 ≡ v = cc in ap₂ (λ x y. (x, y)) left right

a_pair : (e : Entry ℕ) (p : ℕ × ℕ) → stored e ≡ pair_said p → ((u v : ℕ) → e ≡ Pair u v → ⊥) → ⊥
a_pair (Pair u v) p is not_pair = not_pair u v refl
a_pair e p is not_pair = cc

module _ (es : List (Entry ℕ)) (only : after_pairs (map stored es) ≡ []) where
  pairs_said : map stored es ≡ map pair_said (pairs_in (map stored es))
  pairs_said = pairs_end (map stored es) only

  pub pairs_length : length (pairs_in (map stored es)) ≡ length es
  pairs_length = same_length pair_said es (pairs_in (map stored es)) pairs_said

  pub pair_at : (k : ℕ) → k < length es → stored (get_or es k Close) ≡ pair_said (get_or (pairs_in (map stored es)) k (0, 0))
  pair_at = same_at pair_said es (pairs_in (map stored es)) pairs_said

  pub pair_is : (k u v : ℕ) (d : Entry ℕ) → k < length es → get_or es k d ≡ Pair u v → get_or (pairs_in (map stored es)) k (0, 0) ≡ (u, v)
  pair_is k u v d within is = a_pair_of u v (get_or (pairs_in (map stored es)) k (0, 0)) (ap stored (sym is) ∙ (ap stored (get_or_default es k d Close within) ∙ pair_at k within))

  pub no_other : (k : ℕ) (d : Entry ℕ) → k < length es → ((u v : ℕ) → get_or es k d ≡ Pair u v → ⊥) → ⊥
  no_other k d within not_pair =
      a_pair (get_or es k d) (get_or (pairs_in (map stored es)) k (0, 0)) (ap stored (get_or_default es k d Close within) ∙ pair_at k within) not_pair

-- whether an entry gives an element to a letter
gives_said : (byte : ℕ) (e : Entry ℕ) (v : ℕ × ℕ) → stored e ≡ value_said v → gives byte e ≡ eqb v.0 byte
gives_said byte (Value a e) v is = let same : a ≡ v.0 = cc in ap (λ x. eqb x byte) same
gives_said byte e v is = cc

module _ (es : List (Entry ℕ)) (only : after_values (map stored es) ≡ []) where
  values_said : map stored es ≡ map value_said (values_in (map stored es))
  values_said = values_end (map stored es) only

  pub values_length : length (values_in (map stored es)) ≡ length es
  values_length = same_length value_said es (values_in (map stored es)) values_said

  pub value_at : (k : ℕ) → k < length es → stored (get_or es k Close) ≡ value_said (get_or (values_in (map stored es)) k (0, 0))
  value_at = same_at value_said es (values_in (map stored es)) values_said

  gives_forth : (byte k : ℕ) → k < length es → gives byte (get_or es k Close) ≡ true → Gives (values_in (map stored es)) k byte
  gives_forth byte k within gives = eqb-true _ byte (sym (gives_said byte (get_or es k Close) (get_or (values_in (map stored es)) k (0, 0)) (value_at k within)) ∙ gives)

  gives_back : (byte k : ℕ) → k < length es → Gives (values_in (map stored es)) k byte → gives byte (get_or es k Close) ≡ true
  gives_back byte k within given = gives_said byte (get_or es k Close) (get_or (values_in (map stored es)) k (0, 0)) (value_at k within) ∙ eq-eqb _ byte given

  pub last_of :
      (byte : ℕ) (r : Option ℕ)
      → MatchOption r ((k : ℕ) → k < length es → gives byte (get_or es k Close) ≡ true → ⊥)
      (λ k. (k < length es) × (gives byte (get_or es k Close) ≡ true) × ((j : ℕ) → k < j → j < length es → gives byte (get_or es j Close) ≡ true → ⊥))
      → MatchOption r ((k : ℕ) → k < length (values_in (map stored es)) → Gives (values_in (map stored es)) k byte → ⊥) (LastFor (values_in (map stored es)) byte)
  last_of byte None none = λ k within given.
      let short : k < length es = omega (arith, within, values_length) in
      none k short (gives_back byte k short given)
  last_of byte (Some k) h = record {
    within = omega (arith, h.0, values_length);
    here = gives_forth byte k h.0 h.1;
    after = λ j later within given. let short : j < length es = omega (arith, within, values_length) in h.2 j later short (gives_back byte j short given);
  }

-- what the last value for a letter gives
given_said : (e : Entry ℕ) (v : ℕ × ℕ) → stored e ≡ value_said v → given_by e ≡ v.1
given_said (Value a e) v is = cc
given_said e v is = cc

pub last_within : (es : List (Entry ℕ)) (byte k : ℕ) → after_values (map stored es) ≡ [] → LastFor (values_in (map stored es)) byte k → k < length es
last_within es byte k only last = omega (arith, last.within, values_length es only)

pub element_given :
    (es : List (Entry ℕ)) (bottom byte k e : ℕ) (d : Entry ℕ) → after_values (map stored es) ≡ [] → LastFor (values_in (map stored es)) byte k → e ≡ given_by (get_or es k d)
    → ElementFor bottom (values_in (map stored es)) byte e
element_given es bottom byte k e d only last is =
    let within : k < length es = last_within es byte k only last in
    let here : e ≡ (get_or (values_in (map stored es)) k (0, 0)).1 =
    is ∙ (ap given_by (get_or_default es k d Close within) ∙ given_said (get_or es k Close) (get_or (values_in (map stored es)) k (0, 0)) (value_at es only k within)) in
    subst (ElementFor bottom (values_in (map stored es)) byte) (sym here) (ElementFor.last k last)
