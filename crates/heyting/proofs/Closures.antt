-- One pair after another makes the closure of the pairs.
use Rattle.std.proofs.Common.{◌≡◌, ℕ, zero, suc, ◌^◌, ◌<◌, ◌≤◌, Bool, true, false, cond, ◌&&◌, ◌||◌, eqb, ◌⊎◌, List, [], ◌∷◌, ◌++◌, length, get_or, take, Decides, sym, refl, ap, ◌∙◌, subst, inl, inr, ⊎_elim, arith, length-append}
use Rattle.std.proofs.Math.Seq.{take-suc, take-length, get_or-append_seam}
use Rattle.std.proofs.Math.ListN.{get_or-append}
use mathlib.Core.Bool.{or-false}
use lib.Bits.{bit_or, or_lt}
use Rattle.std.proofs.lemmas.Bool.{cases_lt, and_parts, and_from, or_cases, or_left, or_right, eqb-true, eq-eqb}
use Rattle.heyting.specs.Loading.{Loadable}
use Rattle.heyting.specs.Meaning.{Meaning}
use Rattle.heyting.specs.Order.{Stated, Order}
use Rattle.heyting.specs.Order.Order.{same, step}
use Rattle.heyting.specs.Tables.{table, related, reflexive, transitive, Within, kripke}
use Rattle.heyting.specs.Worlds.{holds, FrameOf}
use Rattle.heyting.proofs.Frames.{told_by}
use Rattle.heyting.proofs.Kripke.{kripke_worlds, refl_at, trans_at}
use Rattle.heyting.proofs.Sets.{holds_or, holds_pow, each_from, implies_from}

-- one pair

-- row k of the table with v put above u
abbrev pub grown : List ℕ → ℕ → ℕ → ℕ → ℕ
grown up u v k = cond (holds (get_or up k 0) u) (bit_or (get_or up k 0) (get_or up v 0)) (get_or up k 0)

pub grown_at : (up : List ℕ) (u v k x : ℕ) → holds (grown up u v k) x ≡ related (table up) u v k x
grown_at up u v k x = go (holds (get_or up k 0) u)
  where
    go : (b : Bool) → holds (cond b (bit_or (get_or up k 0) (get_or up v 0)) (get_or up k 0)) x ≡ (table up k x || (b && table up v x))
    go true = holds_or (get_or up k 0) (get_or up v 0) x
    go false = sym (or-false (table up k x))

pub grown_lt : (n : ℕ) (up : List ℕ) (u v k : ℕ) → Within n up → v < n → k < n → grown up u v k < 2 ^ n
grown_lt n up u v k within hv hk = go (holds (get_or up k 0) u)
  where
    go : (b : Bool) → cond b (bit_or (get_or up k 0) (get_or up v 0)) (get_or up k 0) < 2 ^ n
    go true = or_lt n (get_or up k 0) (get_or up v 0) (within k hk) (within v hv)
    go false = within k hk

pub ordered_from : (n : ℕ) (above : ℕ → ℕ → Bool) → ((u : ℕ) → u < n → above u u ≡ true)
    → ((u v w : ℕ) → u < n → v < n → w < n → above u v ≡ true → above v w ≡ true → above u w ≡ true)
    → (reflexive n above && transitive n above) ≡ true
ordered_from n above r t =
    and_from (reflexive n above) (transitive n above) (each_from _ n r)
    (each_from _ n (λ u hu. each_from _ n (λ v hv. each_from _ n (λ w hw. implies_from _ _
    (λ e. let p = and_parts (above u v) (above v w) e in t u v w hu hv hw p.0 p.1)))))

module _ (n : ℕ) (above : ℕ → ℕ → Bool) (ordered : (reflexive n above && transitive n above) ≡ true)
    (u v : ℕ) (hu : u < n) (hv : v < n) where
  back : (w x : ℕ) → related above u v w x ≡ true → (above w x ≡ true) ⊎ ((above w u ≡ true) × (above v x ≡ true))
  back w x e = ⊎_elim inl (λ h. inr (and_parts (above w u) (above v x) h)) (or_cases (above w x) (above w u && above v x) e)

  old : (w x : ℕ) → above w x ≡ true → related above u v w x ≡ true
  old w x e = or_left (above w x) (above w u && above v x) e

  new : (w x : ℕ) → above w u ≡ true → above v x ≡ true → related above u v w x ≡ true
  new w x p q = or_right (above w x) (above w u && above v x) (and_from (above w u) (above v x) p q)

  t : (a b c : ℕ) → a < n → b < n → c < n → above a b ≡ true → above b c ≡ true → above a c ≡ true
  t = trans_at n above ordered

  related_trans : (a b c : ℕ) → a < n → b < n → c < n → related above u v a b ≡ true → related above u v b c ≡ true → related above u v a c ≡ true
  related_trans a b c ha hb hc p q =
      ⊎_elim
      (λ ab. ⊎_elim (λ bc. old a c (t a b c ha hb hc ab bc)) (λ bc. new a c (t a b u ha hb hu ab bc.0) bc.1) (back b c q))
      (λ ab. ⊎_elim (λ bc. new a c ab.0 (t v b c hv hb hc ab.1 bc)) (λ bc. new a c ab.0 bc.1) (back b c q))
      (back a b p)

  pub related_ordered : (after : ℕ → ℕ → Bool) → ((w x : ℕ) → w < n → after w x ≡ related above u v w x) → (reflexive n after && transitive n after) ≡ true
  related_ordered after is =
      ordered_from n after (λ a ha. is a a ha ∙ old a a (refl_at n above ordered a ha))
      (λ a b c ha hb hc p q. is a c ha ∙ related_trans a b c ha hb hc (sym (is a b ha) ∙ p) (sym (is b c hb) ∙ q))

-- all pairs

pub order_trans : {pairs : List (ℕ × ℕ)} {u v w : ℕ} → Order pairs u v → Order pairs v w → Order pairs u w
order_trans same q = q
order_trans (step s p) q = step s (order_trans p q)

-- `above` is the order of the pairs on the worlds below n
abbrev pub Orders : ℕ → List (ℕ × ℕ) → (ℕ → ℕ → Bool) → Type 0
Orders n pairs above = (u v : ℕ) → u < n → v < n → Decides (above u v) (Order pairs u v)

-- a table in the pairs' order that has the pairs is that order
pub closed_all : (n : ℕ) (pairs : List (ℕ × ℕ)) (above : ℕ → ℕ → Bool) → Loadable n pairs → (reflexive n above && transitive n above) ≡ true
    → ((u v : ℕ) → u < n → v < n → above u v ≡ true → Order pairs u v)
    × ((i : ℕ) → i < length pairs → above (get_or pairs i (0, 0)).0 (get_or pairs i (0, 0)).1 ≡ true) → Orders n pairs above
closed_all n pairs above good ordered half u v hu hv = (half.0 u v hu hv, complete u v hu hv)
  where
    complete : (u v : ℕ) → u < n → v < n → Order pairs u v → above u v ≡ true
    complete u v hu hv same = refl_at n above ordered u hu
    complete u v hu hv (step {v = w} (k, hk, e) rest) =
        let hw : w < n = rw e at (good.named k hk).1 in
        let here : above u w ≡ true = rw e at (half.1 k hk) in
        trans_at n above ordered u w v hu hw hv here (complete w v hw hv rest)

order_in : (pairs : List (ℕ × ℕ)) (pair : ℕ × ℕ) (a b : ℕ) → Order pairs a b → Order (pairs ++ pair ∷ []) a b
order_in pairs pair a b same = same
order_in pairs pair a b (step {v = w} (k, hk, e) rest) =
    step (k, omega (arith, hk, length-append pairs (pair ∷ [])), get_or-append pairs (pair ∷ []) (0, 0) k hk ∙ e) (order_in pairs pair w b rest)

order_last : (pairs : List (ℕ × ℕ)) (u v : ℕ) → Order (pairs ++ (u, v) ∷ []) u v
order_last pairs u v = step (length pairs, omega (arith, length-append pairs ((u, v) ∷ [])), get_or-append_seam pairs (u, v) [] (0, 0)) same

-- one of the pairs says so, or the last
abbrev Newly : List (ℕ × ℕ) → ℕ × ℕ → ℕ → ℕ → Type 0
Newly pairs pair a b = Stated pairs a b ⊎ (pair ≡ (a, b))

stated_back : (pairs : List (ℕ × ℕ)) (pair : ℕ × ℕ) (a b : ℕ) → Stated (pairs ++ pair ∷ []) a b → Newly pairs pair a b
stated_back pairs pair a b (k, hk, e) = ⊎_elim (λ h. inl (k, h, sym (get_or-append pairs (pair ∷ []) (0, 0) k h) ∙ e)) (λ h. inr (last h)) (cases_lt k (length pairs))
  where
    last : length pairs ≤ k → pair ≡ (a, b)
    last h =
        let here : k ≡ length pairs = omega (arith, h, hk, length-append pairs (pair ∷ [])) in
        sym (get_or-append_seam pairs pair [] (0, 0)) ∙ (ap (λ i. get_or (pairs ++ pair ∷ []) i (0, 0)) (sym here) ∙ e)

-- b is above a by the pairs, or by them and v above u
abbrev Through : List (ℕ × ℕ) → ℕ → ℕ → ℕ → ℕ → Type 0
Through pairs u v a b = Order pairs a b ⊎ (Order pairs a u × Order pairs v b)

stepped : (pairs : List (ℕ × ℕ)) (u v a w b : ℕ) → Newly pairs (u, v) a w → Through pairs u v w b → Through pairs u v a b
stepped pairs u v a w b (inl s) (inl q) = inl (step s q)
stepped pairs u v a w b (inl s) (inr q) = inr (step s q.0, q.1)
stepped pairs u v a w b (inr e) rest =
    inr (subst (λ x. Order pairs x u) (ap (λ p. p.0) e) same, ⊎_elim (λ q. subst (λ x. Order pairs x b) (sym (ap (λ p. p.1) e)) q) (λ q. q.1) rest)

order_back : (pairs : List (ℕ × ℕ)) (u v a b : ℕ) → Order (pairs ++ (u, v) ∷ []) a b → Through pairs u v a b
order_back pairs u v a b same = inl same
order_back pairs u v a b (step {v = w} s rest) = stepped pairs u v a w b (stated_back pairs (u, v) a w s) (order_back pairs u v w b rest)

pub orders_none : (n : ℕ) (above : ℕ → ℕ → Bool) → ((u v : ℕ) → u < n → above u v ≡ eqb u v) → Orders n [] above
orders_none n above is u v hu hv = (λ e. subst (Order [] u) (eqb-true u v (sym (is u v hu) ∙ e)) same, λ o. is u v hu ∙ eq-eqb u v (alone o))
  where
    alone : {u v : ℕ} → Order [] u v → u ≡ v
    alone same = refl
    alone (step (k, hk, e) rest) = absurd (omega (arith, hk))

pub orders_more : (n : ℕ) (pairs : List (ℕ × ℕ)) (above after : ℕ → ℕ → Bool) (u v : ℕ) → u < n → v < n
    → ((w x : ℕ) → w < n → after w x ≡ related above u v w x) → Orders n pairs above → Orders n (pairs ++ (u, v) ∷ []) after
orders_more n pairs above after u v hu hv is orders a b ha hb = (
  λ e. ⊎_elim (λ p. order_in pairs (u, v) a b ((orders a b ha hb).0 p))
      (λ p. let q = and_parts (above a u) (above v b) p in
      order_trans (order_in pairs (u, v) a u ((orders a u ha hu).0 q.0)) (order_trans (order_last pairs u v) (order_in pairs (u, v) v b ((orders v b hv hb).0 q.1))))
      (or_cases (above a b) (above a u && above v b) (sym (is a b ha) ∙ e)),
  λ o. is a b ha ∙ ⊎_elim (λ p. or_left (above a b) (above a u && above v b) ((orders a b ha hb).1 p))
      (λ p. or_right (above a b) (above a u && above v b) (and_from (above a u) (above v b) ((orders a u ha hu).1 p.0) ((orders v b hv hb).1 p.1)))
      (order_back pairs u v a b o),
)

-- worlds of which none is above another
pub ordered_alone : (n : ℕ) (above : ℕ → ℕ → Bool) → ((u v : ℕ) → u < n → above u v ≡ eqb u v) → (reflexive n above && transitive n above) ≡ true
ordered_alone n above is =
    ordered_from n above (λ u hu. is u u hu ∙ eq-eqb u u refl)
    (λ u v w hu hv hw p q. let e : u ≡ v = eqb-true u v (sym (is u v hu) ∙ p) in rw e q)

-- by rows of the table

pub alone_above : (n : ℕ) (up : List ℕ) → ((k : ℕ) → k < n → get_or up k 0 ≡ 2 ^ k) → (u v : ℕ) → u < n → table up u v ≡ eqb u v
alone_above n up rows u v h = ap (λ x. holds x v) (rows u h) ∙ holds_pow u v

pub grown_above : (n : ℕ) (up after : List ℕ) (u v : ℕ) → ((k : ℕ) → k < n → get_or after k 0 ≡ grown up u v k)
    → (w x : ℕ) → w < n → table after w x ≡ related (table up) u v w x
grown_above n up after u v rows w x h = ap (λ y. holds y x) (rows w h) ∙ grown_at up u v w x

-- `above` is the pairs' order, so its algebra is that of the frame of the pairs

pub closure_frame : (n : ℕ) (pairs : List (ℕ × ℕ)) (above : ℕ → ℕ → Bool) → Orders n pairs above → FrameOf n pairs (kripke n above)
closure_frame n pairs above c = told_by n _ (Order pairs) (kripke n above) (λ u v hu hv. (c u v hu hv).0) (λ u v hu hv. (c u v hu hv).1) (kripke_worlds n above)

-- the order of the first pairs, one put in after another
abbrev upto : List (ℕ × ℕ) → ℕ → ℕ → ℕ → Bool
upto pairs zero u v = eqb u v
upto pairs (suc k) u v = related (upto pairs k) (get_or pairs k (0, 0)).0 (get_or pairs k (0, 0)).1 u v

built : (n : ℕ) (pairs : List (ℕ × ℕ)) → Loadable n pairs → (k : ℕ) → k ≤ length pairs → Orders n (take k pairs) (upto pairs k)
built n pairs good zero h = orders_none n eqb (λ u v _. refl)
built n pairs good (suc k) h =
    let here = good.named k h in
    subst (λ ps. Orders n ps (upto pairs (suc k))) (sym (take-suc pairs k (0, 0) h))
    (orders_more n (take k pairs) (upto pairs k) (upto pairs (suc k)) _ _ here.0 here.1 (λ w x _. refl) (built n pairs good k (omega arith)))

pub some_frame : (n : ℕ) (pairs : List (ℕ × ℕ)) → Loadable n pairs → (m : Meaning) × FrameOf n pairs m
some_frame n pairs good =
    let above = upto pairs (length pairs) in
    (kripke n above, closure_frame n pairs above (subst (λ ps. Orders n ps above) (take-length pairs) (built n pairs good (length pairs) (omega arith))))
