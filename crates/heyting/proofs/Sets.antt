-- Sets of worlds as numbers: which worlds the operations' results hold.
use Rattle.std.proofs.Common.{◌≡◌, ℕ, zero, suc, ◌+◌, ◌-◌, ◌/◌, ◌%◌, ◌^◌, ◌<◌, ◌≤◌, Bool, true, false, cond, ◌&&◌, ◌||◌, eqb, sym, refl, ap, ◌∙◌, ap₂, ⊎_elim, le_of_suc-le-suc, not-suc-le-zero, mod-lt, mod-eq_of_lt, zero-lt-suc, div-one, add-one, arith, pow_pos, pow_mono}
use mathlib.Core.Bool.{false≢true}
use native.Mathlib.Nat.{div-eq_of_lt, div_self}
use lib.Arith.{lt-one}
use lib.Pow.{pow-lt}
use lib.Bits.{bit_and, bit_or, and_shr, or_shr, and_mod, or_mod, and_mask, or_lt, and_le_l, shifted_even}
use Rattle.std.proofs.lemmas.Nat.{shr-shr, shl-shr, pow-add}
use Rattle.std.proofs.lemmas.Bool.{eq-eqb, ne_eqb, eqb-true, cases_order, cases_Bool, both_ways}
use Rattle.std.proofs.lemmas.Bool.Decides.{Decides-below_and, same_from_decides}
use Rattle.heyting.specs.Tables.{each, collect, implies}
use Rattle.heyting.specs.Worlds.{holds}

two_pos : 0 < 2
two_pos = zero-lt-suc 1

no_digit : {A : Type 0} {x : ℕ} → suc (suc x) < 2 → A
no_digit h = absurd (not-suc-le-zero (le_of_suc-le-suc (le_of_suc-le-suc h)))

digit_and : (x y : ℕ) → x < 2 → y < 2 → eqb (bit_and x y) 1 ≡ (eqb x 1 && eqb y 1)
digit_and zero y hx hy = refl
digit_and (suc zero) zero hx hy = refl
digit_and (suc zero) (suc zero) hx hy = refl
digit_and (suc zero) (suc (suc y)) hx hy = no_digit hy
digit_and (suc (suc x)) y hx hy = no_digit hx

digit_or : (x y : ℕ) → x < 2 → y < 2 → eqb (bit_or x y) 1 ≡ (eqb x 1 || eqb y 1)
digit_or zero y hx hy = refl
digit_or (suc zero) zero hx hy = refl
digit_or (suc zero) (suc zero) hx hy = refl
digit_or (suc zero) (suc (suc y)) hx hy = no_digit hy
digit_or (suc (suc x)) y hx hy = no_digit hx

digit_same : (x y : ℕ) → x < 2 → y < 2 → eqb x 1 ≡ eqb y 1 → x ≡ y
digit_same zero zero hx hy e = refl
digit_same zero (suc zero) hx hy e = cc
digit_same zero (suc (suc y)) hx hy e = no_digit hy
digit_same (suc zero) zero hx hy e = cc
digit_same (suc zero) (suc zero) hx hy e = refl
digit_same (suc zero) (suc (suc y)) hx hy e = no_digit hy
digit_same (suc (suc x)) y hx hy e = no_digit hx

pub holds_and : (a b u : ℕ) → holds (bit_and a b) u ≡ (holds a u && holds b u)
unfolding holds
holds_and a b u =
    ap (λ x. eqb (x % 2) 1) (and_shr a b u) ∙ ap (λ x. eqb x 1) (and_mod (a / 2 ^ u) (b / 2 ^ u) 1)
    ∙ digit_and (a / 2 ^ u % 2) (b / 2 ^ u % 2) (mod-lt (a / 2 ^ u) two_pos) (mod-lt (b / 2 ^ u) two_pos)

pub holds_or : (a b u : ℕ) → holds (bit_or a b) u ≡ (holds a u || holds b u)
unfolding holds
holds_or a b u =
    ap (λ x. eqb (x % 2) 1) (or_shr a b u) ∙ ap (λ x. eqb x 1) (or_mod (a / 2 ^ u) (b / 2 ^ u) 1)
    ∙ digit_or (a / 2 ^ u % 2) (b / 2 ^ u % 2) (mod-lt (a / 2 ^ u) two_pos) (mod-lt (b / 2 ^ u) two_pos)

pub holds_high : (a n u : ℕ) → a < 2 ^ n → n ≤ u → holds a u ≡ false
unfolding holds
holds_high a n u h k =
    let below : a < 2 ^ u = omega (arith, pow_mono k) in
    ap (λ x. eqb (x % 2) 1) (div-eq_of_lt below)

pub holds_zero : (u : ℕ) → holds 0 u ≡ false
holds_zero u = holds_high 0 u u (pow_pos u) (omega arith)

holds_self : (k : ℕ) → holds (2 ^ k) k ≡ true
unfolding holds
holds_self k = ap (λ x. eqb (x % 2) 1) (div_self (pow_pos k))

holds_less : (j u : ℕ) → holds (2 ^ (suc j + u)) u ≡ false
unfolding holds
holds_less j u =
    ap (λ x. eqb (x / 2 ^ u % 2) 1) (pow-add 2 (suc j) u)
    ∙ ap (λ x. eqb (x % 2) 1) (shl-shr (2 ^ suc j) u)
    ∙ ap (λ x. eqb x 1) (ap (λ x. x % 2) (omega arith) ∙ shifted_even 1 j)

pub holds_pow : (k u : ℕ) → holds (2 ^ k) u ≡ eqb k u
holds_pow k u = ⊎_elim same (⊎_elim less more) (cases_order k u)
  where
    same : k ≡ u → holds (2 ^ k) u ≡ eqb k u
    same e = ap (holds (2 ^ k)) (sym e) ∙ holds_self k ∙ sym (eq-eqb k u e)

    less : k < u → holds (2 ^ k) u ≡ eqb k u
    less h = holds_high (2 ^ k) u u (pow-lt h) (omega arith) ∙ sym (ne_eqb k u (omega arith))

    more : u < k → holds (2 ^ k) u ≡ eqb k u
    more h =
        let e : k ≡ suc (k - suc u) + u = omega arith in
        ap (λ x. holds (2 ^ x) u) e ∙ holds_less (k - suc u) u ∙ sym (ne_eqb k u (omega arith))

pub holds_top : (n u : ℕ) → u < n → holds (2 ^ n - 1) u ≡ true
holds_top n u h =
    let both : (holds (2 ^ u) u && holds (2 ^ n - 1) u) ≡ holds (2 ^ u) u =
    sym (holds_and (2 ^ u) (2 ^ n - 1) u) ∙ ap (λ x. holds x u) (and_mask (2 ^ u) n ∙ mod-eq_of_lt (pow-lt h)) in
    let self : holds (2 ^ u) u ≡ true = holds_self u in
    cc

-- a set is known by its worlds
holds_half : (a u : ℕ) → holds (a / 2) u ≡ holds a (suc u)
unfolding holds
holds_half a u = ap (λ x. eqb (x % 2) 1) (shr-shr a 1 u ∙ ap (λ k. a / 2 ^ k) (omega arith))

pub extent : (n a b : ℕ) → a < 2 ^ n → b < 2 ^ n → ((u : ℕ) → u < n → holds a u ≡ holds b u) → a ≡ b
unfolding holds
extent zero a b ha hb same = lt-one ha ∙ sym (lt-one hb)
extent (suc n) a b ha hb same =
    let low : a % 2 ≡ b % 2 =
    digit_same (a % 2) (b % 2) (mod-lt a two_pos) (mod-lt b two_pos)
    (ap (λ x. eqb (x % 2) 1) (sym (div-one a)) ∙ same 0 (omega arith) ∙ ap (λ x. eqb (x % 2) 1) (div-one b)) in
    let high : a / 2 ≡ b / 2 =
    extent n (a / 2) (b / 2) (omega arith) (omega arith)
    (λ u h. holds_half a u ∙ same (suc u) (omega arith) ∙ sym (holds_half b u)) in
    omega arith

-- ---- each and collect

pub each_at : (p : ℕ → Bool) (n u : ℕ) → each p n ≡ true → u < n → p u ≡ true
each_at p n u e = (Decides-below_and p (λ k. p k ≡ true) (each p) (λ k. (λ x. x, λ x. x)) refl (λ _. refl) n).0 e u

pub each_from : (p : ℕ → Bool) (n : ℕ) → ((u : ℕ) → u < n → p u ≡ true) → each p n ≡ true
each_from p n = (Decides-below_and p (λ k. p k ≡ true) (each p) (λ k. (λ x. x, λ x. x)) refl (λ _. refl) n).1

one_world : (b : Bool) (n u : ℕ) → holds (cond b (2 ^ n) 0) u ≡ (b && eqb n u)
one_world true n u = holds_pow n u
one_world false n u = holds_zero u

one_lt : (b : Bool) (n : ℕ) → cond b (2 ^ n) 0 < 2 ^ suc n
one_lt true n = pow-lt (omega arith)
one_lt false n = pow_pos (suc n)

pub collect_lt : (p : ℕ → Bool) (n : ℕ) → collect p n < 2 ^ n
collect_lt p zero = omega arith
collect_lt p (suc n) =
    or_lt (suc n) (collect p n) (cond (p n) (2 ^ n) 0) (omega (arith, collect_lt p n)) (one_lt (p n) n)

pub collect_at : (p : ℕ → Bool) (n u : ℕ) → u < n → holds (collect p n) u ≡ p u
collect_at p zero u h = absurd (not-suc-le-zero h)
collect_at p (suc n) u h =
    holds_or (collect p n) (cond (p n) (2 ^ n) 0) u ∙ ap (λ x. holds (collect p n) u || x) (one_world (p n) n u)
    ∙ ⊎_elim last (⊎_elim (λ k. absurd (omega arith)) (earlier (collect_at p n u))) (cases_order n u)
  where
    last : n ≡ u → (holds (collect p n) u || (p n && eqb n u)) ≡ p u
    last e =
        let none : holds (collect p n) u ≡ false = holds_high (collect p n) n u (collect_lt p n) (omega arith) in
        let here : eqb n u ≡ true = eq-eqb n u e in
        rw (none, here) (and_true' (p n) ∙ ap p e)
      where
        and_true' : (b : Bool) → (b && true) ≡ b
        and_true' true = refl
        and_true' false = refl

    earlier : (u < n → holds (collect p n) u ≡ p u) → u < n → (holds (collect p n) u || (p n && eqb n u)) ≡ p u
    earlier ih k =
        let other : eqb n u ≡ false = ne_eqb n u (omega arith) in
        rw (ih k, other) (drop (p n) (p u))
      where
        drop : (b c : Bool) → (c || (b && false)) ≡ c
        drop true true = refl
        drop true false = refl
        drop false true = refl
        drop false false = refl

-- ---- implies

pub implies_at : (a b : Bool) → implies a b ≡ true → a ≡ true → b ≡ true
implies_at true b h e = h
implies_at false true h e = refl
implies_at false false h e = e

pub implies_from : (a b : Bool) → (a ≡ true → b ≡ true) → implies a b ≡ true
implies_from true b f = f refl
implies_from false b f = refl

-- ---- steps of a loop over the worlds

pub each_broken : (p : ℕ → Bool) (n u : ℕ) → u < n → p u ≡ false → each p n ≡ false
each_broken p n u h e = ⊎_elim (λ k. absurd (both_ways (p u) e (each_at p n u k h))) (λ k. k) (cases_Bool (each p n))

pub collect_more : (p : ℕ → Bool) (u x : ℕ) → x ≡ bit_or (collect p u) (cond (p u) (2 ^ u) 0) → x ≡ collect p (u + 1)
collect_more p u x e = rw add-one e

pub each_same : (p q : ℕ → Bool) (n : ℕ) → ((v : ℕ) → p v ≡ q v) → each p n ≡ each q n
each_same p q zero h = refl
each_same p q (suc n) h = ap₂ ◌&&◌ (h n) (each_same p q n h)

-- ---- whether each world of x is in y

pub inside_at : (x y u : ℕ) → bit_and x y ≡ x → holds x u ≡ true → holds y u ≡ true
inside_at x y u e h = second (holds x u) (holds y u) (sym (holds_and x y u) ∙ ap (λ z. holds z u) e) h
  where
    second : (a b : Bool) → (a && b) ≡ a → a ≡ true → b ≡ true
    second true b e h = e
    second false b e h = absurd (false≢true h)

pub inside_from : (n x y : ℕ) → x < 2 ^ n → ((u : ℕ) → u < n → holds x u ≡ true → holds y u ≡ true) → bit_and x y ≡ x
inside_from n x y hx h =
    extent n (bit_and x y) x (omega (arith, and_le_l x y)) hx
    (λ u k. holds_and x y u ∙ first (holds x u) (holds y u) (h u k))
  where
    first : (a b : Bool) → (a ≡ true → b ≡ true) → (a && b) ≡ a
    first true b f = f refl
    first false b f = refl

pub inside_each : (n x y : ℕ) → x < 2 ^ n → eqb (bit_and x y) x ≡ each (λ v. implies (holds x v) (holds y v)) n
inside_each n x y hx =
    same_from_decides {P = (u : ℕ) → u < n → holds x u ≡ true → holds y u ≡ true}
    (eqb (bit_and x y) x) (each (λ v. implies (holds x v) (holds y v)) n)
    (λ e u _ k. inside_at x y u (eqb-true (bit_and x y) x e) k, λ f. eq-eqb (bit_and x y) x (inside_from n x y hx f)) (
      λ e u h k. implies_at (holds x u) (holds y u) (each_at _ n u e h) k,
      λ f. each_from _ n (λ u h. implies_from (holds x u) (holds y u) (f u h)),
    )

pub member_row : (n a up u : ℕ) → up < 2 ^ n → implies (holds a u) (eqb (bit_and up a) up) ≡ each (λ v. implies (holds a u && holds up v) (holds a v)) n
member_row n a up u h = go (holds a u)
  where
    go : (b : Bool) → implies b (eqb (bit_and up a) up) ≡ each (λ v. implies (b && holds up v) (holds a v)) n
    go true = inside_each n up a h
    go false = sym (each_from (λ v. true) n (λ u h. refl))

pub arrow_row : (n a b up : ℕ) → up < 2 ^ n → eqb (bit_and (bit_and up a) b) (bit_and up a) ≡ each (λ v. implies (holds up v && holds a v) (holds b v)) n
arrow_row n a b up h =
    inside_each n (bit_and up a) b (omega (arith, and_le_l up a))
    ∙ each_same _ _ n (λ v. ap (λ x. implies x (holds b v)) (holds_and up a v))
