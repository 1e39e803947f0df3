-- What the steps of reading fields gave, where the whole gave a value or a fault.
use Rattle.std.proofs.Common.{inl, inr, ◌≡◌, ◌⊎◌, ℕ, ◌≤◌, length, arith, Bool, true, List, [], ◌∷◌, Some, None, Option, Ok, Err, Result, refl, sym, ap, ◌∙◌}
use Rattle.std.proofs.lemmas.Bool.{cases_Bool, cond-true, cond-false}
use Rattle.std.proofs.lemmas.Option.{same_Some}
use Rattle.std.specs.Option.{option_map}
use Rattle.entries.specs.Forms.{onto, given, alone}
use Rattle.entries.specs.Kinds.{found}

pub same_Ok : {A E : Type 0} {a b : A} → ◌≡◌ {A = Result A E} (Ok a) (Ok b) → a ≡ b
same_Ok {A} {E} {a} e = ap ok_or e
  where
    ok_or : Result A E → A
    ok_or (Ok x) = x
    ok_or (Err e) = a

pub onto_ok : {A B E : Type 0} (f : A → B) (r : Result A E) {b : B} → onto f r ≡ Ok b → (a : A) × (r ≡ Ok a) × (f a ≡ b)
onto_ok f (Ok a) e = (a, refl, same_Ok e)
onto_ok f (Err n) e = absurd (cc)

pub given_ok : {A B : Type 0} (n : ℕ) (o : Option A) (next : A → Result B ℕ) {b : B} → given n o next ≡ Ok b → (a : A) × (o ≡ Some a) × (next a ≡ Ok b)
given_ok n None next e = absurd (cc)
given_ok n (Some a) next e = (a, refl, e)

pub alone_ok : {A : Type 0} (x : A) (n : ℕ) (fs : List (List ℕ)) {y : A} → alone x n fs ≡ Ok y → (fs ≡ []) × (x ≡ y)
alone_ok x n [] e = (refl, same_Ok e)
alone_ok x n (f ∷ fs) e = absurd (cc)

-- the thing found passes the test
module _ {A : Type 0} (test : A → Bool) where
  pub found_passes : (xs : List A) (a : A) → found test xs ≡ Some a → test a ≡ true
  found_passes [] a e = absurd (cc)
  found_passes (x ∷ xs) a e = elim (cases_Bool (test x)) [
    | inl hit ↦ ap test (sym (same_Some _ _ (sym (cond-true _ _ _ hit) ∙ e))) ∙ hit
    | inr miss ↦ found_passes xs a (sym (cond-false _ _ _ miss) ∙ e)
  ]

pub given_map : {A B C : Type 0} (n : ℕ) (f : A → B) (o : Option A) (next : B → Result C ℕ) → given n (option_map f o) next ≡ given n o (λ a. next (f a))
given_map n f None next = refl
given_map n f (Some a) next = refl

pub same_Err : {A : Type 0} {m n : ℕ} → ◌≡◌ {A = Result A ℕ} (Err m) (Err n) → m ≡ n
same_Err {A} {m} e = ap err_or e
  where
    err_or : Result A ℕ → ℕ
    err_or (Ok x) = m
    err_or (Err k) = k

pub onto_err : {A B : Type 0} (f : A → B) (r : Result A ℕ) {n : ℕ} → onto f r ≡ Err n → r ≡ Err n
onto_err f (Ok a) e = absurd (cc)
onto_err f (Err m) e = ap Err (same_Err e)

pub given_err : {A B : Type 0} (k : ℕ) (o : Option A) (next : A → Result B ℕ) {n : ℕ} → given k o next ≡ Err n → (k ≡ n) ⊎ ((a : A) × (o ≡ Some a) × (next a ≡ Err n))
given_err k None next e = inl (same_Err e)
given_err k (Some a) next e = inr (a, refl, e)

pub alone_err : {A : Type 0} (x : A) (k : ℕ) (fs : List (List ℕ)) {n : ℕ} → alone x k fs ≡ Err n → (k ≡ n) × (1 ≤ length fs)
alone_err x k [] e = absurd (cc)
alone_err x k (f ∷ fs) e = (same_Err e, omega arith)
