-- Records come in their turns, or are out of turn at one place.
use Rattle.std.proofs.Common.{◌≡◌, ℕ, suc, ◌+◌, ◌<◌, ◌≤◌, true, false, List, [], ◌∷◌, Some, None, Option, ◌⊎◌, inl, inr, refl, sym, ap, ◌∙◌, subst, map, length, get_or, drop, zero-add, add-zero, add-one, drop-cons, arith}
use Rattle.std.proofs.lemmas.Bool.{cases_Bool}
use Rattle.std.proofs.lemmas.List.{drop_all}
use Rattle.std.proofs.lemmas.Option.{same_Some}
use Rattle.entries.specs.Entries.{Said, stored}
use Rattle.entries.specs.InTurn.{kind_said, InTurn, OutOfTurn, OnePlace}
use Rattle.entries.specs.Turns.{follow, complete}
use Rattle.entries.specs.declared.entry.Entry.{Entry}
use Rattle.entries.specs.declared.kind.Kind.{Kind}
use Rattle.entries.specs.declared.turn.Format.{Format}
use Rattle.entries.specs.declared.turn.Turn.{Turn}

abbrev InOrOut : Format → Turn → List (Said ℕ) → Type 0
InOrOut format turn xs = InTurn format turn xs ⊎ ((n : ℕ) × OutOfTurn format turn xs n)

module _ (format : Format) (turn : Turn) where
  at_end : InOrOut format turn []
  at_end = elim (cases_Bool (complete format turn)) [ inl full ↦ inl (InTurn.end full) | inr short ↦ inr (0, OutOfTurn.absent short) ]

  one_before : (x : Said ℕ) (xs : List (Said ℕ)) (o : Option Turn) → follow format turn (kind_said x) ≡ o → ((later : Turn) → InOrOut format later xs) → InOrOut format turn (x ∷ xs)
  one_before x xs None none rest = inr (0, OutOfTurn.here none)
  one_before x xs (Some later) comes rest = elim (rest later) [ inl all ↦ inl (InTurn.more later comes all) | inr out ↦ inr (suc out.0, OutOfTurn.more later comes out.1) ]

in_or_out : (format : Format) (turn : Turn) (xs : List (Said ℕ)) → InOrOut format turn xs
in_or_out format turn [] = at_end format turn
in_or_out format turn (x ∷ xs) = one_before format turn x xs (follow format turn (kind_said x)) refl (λ later. in_or_out format later xs)

module _ {format : Format} where
  not_both : {turn : Turn} {xs : List (Said ℕ)} {n : ℕ} → InTurn format turn xs → OutOfTurn format turn xs n → ⊥
  not_both (InTurn.end full) (OutOfTurn.absent short) = cc
  not_both (InTurn.more later comes rest) (OutOfTurn.here none) = cc
  not_both (InTurn.more {xs = xs} later comes rest) (OutOfTurn.more {n = n} other also out) =
      not_both rest (subst (λ t. OutOfTurn format t xs n) (same_Some other later (sym also ∙ comes)) out)

  one_place : {turn : Turn} {xs : List (Said ℕ)} {n m : ℕ} → OutOfTurn format turn xs n → OutOfTurn format turn xs m → n ≡ m
  one_place (OutOfTurn.absent short) (OutOfTurn.absent also) = refl
  one_place (OutOfTurn.here none) (OutOfTurn.here also) = refl
  one_place (OutOfTurn.here none) (OutOfTurn.more other also out) = absurd (cc)
  one_place (OutOfTurn.more later comes rest) (OutOfTurn.here none) = absurd (cc)
  one_place (OutOfTurn.more {xs = xs} later comes rest) (OutOfTurn.more {n = n} other also out) =
      ap suc (one_place rest (subst (λ t. OutOfTurn format t xs n) (same_Some other later (sym also ∙ comes)) out))

pub out_within : {format : Format} {turn : Turn} {n : ℕ} (xs : List (Said ℕ)) → OutOfTurn format turn xs n → n ≤ length xs
out_within [] (OutOfTurn.absent short) = omega arith
out_within (x ∷ xs) (OutOfTurn.here none) = omega arith
out_within (x ∷ xs) (OutOfTurn.more later comes out) = omega (arith, out_within xs out)

pub settled : OnePlace
settled = record {
  either = in_or_out;
  not_both = λ format turn xs n all out. not_both all out;
  one_place = λ format turn xs n m out other. one_place out other;
}

-- the first k records come in their turns, up to a later turn: what comes from there on tells of all
pub record Reached (format : Format) (turn later : Turn) (es : List (Entry ℕ)) (k : ℕ) : Type 0 where
  pub all : InTurn format later (map stored (drop k es)) → InTurn format turn (map stored es)
  pub out : (n : ℕ) → OutOfTurn format later (map stored (drop k es)) n → OutOfTurn format turn (map stored es) (k + n)

module _ (format : Format) (turn : Turn) (es : List (Entry ℕ)) where
  pub none_reached : Reached format turn turn es 0
  none_reached = record { all = λ h. h; out = λ n h. subst (OutOfTurn format turn (map stored es)) (sym (zero-add n)) h }

  module _ (later : Turn) (k : ℕ) (reached : Reached format turn later es k) where
    -- record k is of this kind
    module _ (d : Entry ℕ) (kind : Kind) (within : k < length es) (kind_is : kind ≡ kind_said (stored (get_or es k d))) where
      next : map stored (drop k es) ≡ stored (get_or es k d) ∷ map stored (drop (k + 1) es)
      next = ap (map stored) (drop-cons es k d within) ∙ ap (λ i. stored (get_or es k d) ∷ map stored (drop i es)) (sym (add-one k))

      pub one_more : (then : Turn) → Some then ≡ follow format later kind → Reached format turn then es (k + 1)
      one_more then comes =
          let follows : follow format later (kind_said (stored (get_or es k d))) ≡ Some then = ap (follow format later) (sym kind_is) ∙ sym comes in
          record {
            all = λ h. reached.all (subst (InTurn format later) (sym next) (InTurn.more then follows h));
            out = λ n h.
                let place : k + suc n ≡ (k + 1) + n = omega arith in
                subst (OutOfTurn format turn (map stored es)) place (reached.out (suc n) (subst (λ xs. OutOfTurn format later xs (suc n)) (sym next) (OutOfTurn.more then follows h)));
          }

      pub out_here : None ≡ follow format later kind → OutOfTurn format turn (map stored es) k
      out_here none =
          let follows : follow format later (kind_said (stored (get_or es k d))) ≡ None = ap (follow format later) (sym kind_is) ∙ sym none in
          subst (OutOfTurn format turn (map stored es)) (add-zero k) (reached.out 0 (subst (λ xs. OutOfTurn format later xs 0) (sym next) (OutOfTurn.here follows)))

    module _ (past : length es ≤ k) (fits : k ≤ length es) where
      no_more : map stored (drop k es) ≡ []
      no_more = ap (map stored) (drop_all k es past)

      pub all_reached : true ≡ complete format later → InTurn format turn (map stored es)
      all_reached full = reached.all (subst (InTurn format later) (sym no_more) (InTurn.end (sym full)))

      pub out_behind : false ≡ complete format later → OutOfTurn format turn (map stored es) (length es)
      out_behind short =
          let place : k + 0 ≡ length es = omega arith in
          subst (OutOfTurn format turn (map stored es)) place (reached.out 0 (subst (λ xs. OutOfTurn format later xs 0) (sym no_more) (OutOfTurn.absent (sym short))))
