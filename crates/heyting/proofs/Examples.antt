-- The examples, from the definitions.
use Rattle.std.proofs.Common.{◌≡◌, ℕ, zero, suc, ◌<◌, Bool, true, leb, ◌⊎◌, ◌↔◌, List, [], ◌∷◌, get_or, Decides, sym, refl, ap, ◌∙◌, subst, inl, inr, ⊎_elim, arith, lit<, lit≤}
use mathlib.Core.Bool.{false≢true}
use Rattle.std.proofs.lemmas.Bool.{and_parts, ltb-true}
use Rattle.heyting.specs.Examples.{TwoStages, SettledStages, Examples}
use Rattle.heyting.specs.Layers.{product, regular}
use Rattle.heyting.specs.Loading.{Named}
use Rattle.heyting.specs.Meaning.{Meaning, Member}
use Rattle.heyting.specs.Order.{Order}
use Rattle.heyting.specs.Order.Order.{same, step}
use Rattle.heyting.specs.Tables.{kripke}
use Rattle.heyting.specs.Worlds.{holds, FrameOf}
use Rattle.heyting.proofs.Closures.{order_trans, closed_all, closure_frame}
use Rattle.heyting.proofs.Frames.{one_algebra}

-- a frame is the one that a table makes which has the pairs, and nothing that they do not make
made_by : (n : ℕ) (pairs : List (ℕ × ℕ)) (above : ℕ → ℕ → Bool) (m : Meaning) → FrameOf n pairs m → ((u v : ℕ) → u < n → v < n → Decides (above u v) (Order pairs u v)) → kripke n above ≡ m
made_by n pairs above m f c = one_algebra n (Order pairs) (kripke n above) m (closure_frame n pairs above c) f

-- two stages: world 0 below world 1

abbrev ladder : List (ℕ × ℕ)
ladder = (0, 1) ∷ []

ladder_order : (u v : ℕ) → u < 2 → v < 2 → leb u v ≡ true → Order ladder u v
ladder_order zero zero hu hv e = same
ladder_order zero (suc zero) hu hv e = step (0, lit< tt, refl) same
ladder_order zero (suc (suc v)) hu hv e = absurd (omega arith)
ladder_order (suc zero) zero hu hv e = absurd (false≢true e)
ladder_order (suc zero) (suc zero) hu hv e = same
ladder_order (suc zero) (suc (suc v)) hu hv e = absurd (omega arith)
ladder_order (suc (suc u)) v hu hv e = absurd (omega arith)

ladder_named : (k : ℕ) → k < 1 → Named 2 (get_or ladder k (0, 0)) × (leb (get_or ladder k (0, 0)).0 (get_or ladder k (0, 0)).1 ≡ true)
ladder_named zero h = ((lit< tt, lit< tt), refl)
ladder_named (suc k) h = absurd (omega arith)

abbrev stages : Meaning
stages = kripke 2 leb

stages_frame : (m : Meaning) → FrameOf 2 ladder m → stages ≡ m
stages_frame m f =
    made_by 2 ladder leb m f (closed_all 2 ladder leb (record { range = (lit≤ tt, lit≤ tt); named = λ k h. (ladder_named k h).0 }) refl (ladder_order, λ k h. (ladder_named k h).1))

stages_members : (a : ℕ) → Member stages a → (a ≡ 0) ⊎ ((a ≡ 2) ⊎ (a ≡ 3))
unfolding holds
stages_members zero h = inl refl
stages_members (suc zero) h = absurd (false≢true h)
stages_members (suc (suc zero)) h = inr (inl refl)
stages_members (suc (suc (suc zero))) h = inr (inr refl)
stages_members (suc (suc (suc (suc a)))) h = absurd (omega (arith, ltb-true (suc (suc (suc (suc a)))) 4 (and_parts _ _ h).0))

two_stages : TwoStages stages
unfolding holds
two_stages = record {
  members = λ a. (
    stages_members a,
    ⊎_elim (λ e. subst (Member stages) (sym e) refl) (⊎_elim (λ e. subst (Member stages) (sym e) refl) (λ e. subst (Member stages) (sym e) refl)),
  );
  not_two = refl;
  not_zero = refl;
  unsettled = λ v e. ap (λ x. stages.join x (stages.arrow x 0)) e;
}

-- and their double-negation layer

settled_members : (a : ℕ) → Member (regular stages) a → (a ≡ 0) ⊎ (a ≡ 3)
unfolding holds
settled_members zero h = inl refl
settled_members (suc zero) h = absurd (false≢true h)
settled_members (suc (suc zero)) h = absurd (false≢true h)
settled_members (suc (suc (suc zero))) h = inr refl
settled_members (suc (suc (suc (suc a)))) h = absurd (omega (arith, ltb-true (suc (suc (suc (suc a)))) 4 (and_parts _ _ (and_parts _ _ h).0).0))

settled_stages : SettledStages stages
unfolding holds
settled_stages = record {
  members = λ a. (
    settled_members a,
    ⊎_elim (λ e. subst (Member (regular stages)) (sym e) refl) (λ e. subst (Member (regular stages)) (sym e) refl),
  );
  refuted = λ v e. ap (λ x. (regular stages).join x ((regular stages).arrow x 0)) e;
  established = λ v e. ap (λ x. (regular stages).join x ((regular stages).arrow x 0)) e;
}

-- three worlds in a ring

abbrev round : List (ℕ × ℕ)
round = (0, 1) ∷ (1, 2) ∷ (2, 0) ∷ []

abbrev all : ℕ → ℕ → Bool
all u v = true

first : Order round 0 1
first = step (0, lit< tt, refl) same

second : Order round 1 2
second = step (1, lit< tt, refl) same

third : Order round 2 0
third = step (2, lit< tt, refl) same

from_zero : (v : ℕ) → v < 3 → Order round 0 v
from_zero zero h = same
from_zero (suc zero) h = first
from_zero (suc (suc zero)) h = order_trans first second
from_zero (suc (suc (suc v))) h = absurd (omega arith)

to_zero : (u : ℕ) → u < 3 → Order round u 0
to_zero zero h = same
to_zero (suc zero) h = order_trans second third
to_zero (suc (suc zero)) h = third
to_zero (suc (suc (suc u))) h = absurd (omega arith)

round_named : (k : ℕ) → k < 3 → Named 3 (get_or round k (0, 0))
round_named zero h = (lit< tt, lit< tt)
round_named (suc zero) h = (lit< tt, lit< tt)
round_named (suc (suc zero)) h = (lit< tt, lit< tt)
round_named (suc (suc (suc k))) h = absurd (omega arith)

abbrev ring : Meaning
ring = kripke 3 all

ring_frame : (m : Meaning) → FrameOf 3 round m → ring ≡ m
ring_frame m f =
    made_by 3 round all m f
    (closed_all 3 round all (record { range = (lit≤ tt, lit≤ tt); named = round_named }) refl (λ u v hu hv e. order_trans (to_zero u hu) (from_zero v hv), λ k h. refl))

ring_members : (a : ℕ) → Member ring a → (a ≡ 0) ⊎ (a ≡ 7)
unfolding holds
ring_members zero h = inl refl
ring_members (suc zero) h = absurd (false≢true h)
ring_members (suc (suc zero)) h = absurd (false≢true h)
ring_members (suc (suc (suc zero))) h = absurd (false≢true h)
ring_members (suc (suc (suc (suc zero)))) h = absurd (false≢true h)
ring_members (suc (suc (suc (suc (suc zero))))) h = absurd (false≢true h)
ring_members (suc (suc (suc (suc (suc (suc zero)))))) h = absurd (false≢true h)
ring_members (suc (suc (suc (suc (suc (suc (suc zero))))))) h = inr refl
ring_members (suc (suc (suc (suc (suc (suc (suc (suc a)))))))) h = absurd (omega (arith, ltb-true (suc (suc (suc (suc (suc (suc (suc (suc a)))))))) 8 (and_parts _ _ h).0))

ring_two : (a : ℕ) → Member ring a ↔ ((a ≡ 0) ⊎ (a ≡ 7))
unfolding holds
ring_two a = (ring_members a, ⊎_elim (λ e. subst (Member ring) (sym e) refl) (λ e. subst (Member ring) (sym e) refl))

-- one world

abbrev one_world : Meaning
one_world = kripke 1 all

one_frame : (m : Meaning) → FrameOf 1 [] m → one_world ≡ m
one_frame m f =
    made_by 1 [] all m f
    (closed_all 1 [] all (record { range = (lit≤ tt, lit≤ tt); named = λ k h. absurd (omega arith) }) refl (λ u v hu hv e. let P : ℕ → Type 0 = Order [] u in subst P (omega arith) same, λ k h. absurd (omega arith)))

paired : (product one_world one_world).arrow 2 1 ≡ 1
unfolding holds
paired = refl

pub examples : Examples
examples = record {
  two_stages = λ m f. subst TwoStages (stages_frame m f) two_stages;
  settled_stages = λ m f. subst SettledStages (stages_frame m f) settled_stages;
  ring = λ m f a. subst (λ k. Member k a ↔ ((a ≡ 0) ⊎ (a ≡ 7))) (ring_frame m f) (ring_two a);
  two_singles = λ m n f g. sym (λ i. (product (one_frame m f i) (one_frame n g i)).arrow 2 1) ∙ paired;
}
