-- A table of boxes as a stack.
use Rattle.std.proofs.Common.{◌≡◌, ℕ, zero, suc, ◌+◌, ◌-◌, ◌<◌, ◌≤◌, ◌≢◌, List, ◌∷◌, length, get_or, set, sym, refl, ap, ◌∙◌, ap₂, add-one, arith}
use Rattle.std.proofs.lemmas.List.{get_or-set_same, get_or-set_other}
use Rattle.fitch.specs.Records.{moved}
use Rattle.ledger.specs.Stack.{reach, no_box, stacked}
use Rattle.ledger.specs.declared.open_box.OpenBox.{OpenBox}

pub length_stacked : (bs : List OpenBox) (d : ℕ) → length (stacked bs d) ≡ d
length_stacked bs zero = refl
length_stacked bs (suc d) = ap suc (length_stacked bs d)

stacked_set : (bs : List OpenBox) (d i : ℕ) (x : OpenBox) → d ≤ i → stacked (set bs i x) d ≡ stacked bs d
stacked_set bs zero i x le = refl
stacked_set bs (suc d) i x le =
    let ne : d ≢ i = omega arith in
    ap₂ (λ b rs. reach b ∷ rs) (get_or-set_other bs i d x no_box ne) (stacked_set bs d i x (omega arith))

pub stacked_push : (bs : List OpenBox) (d : ℕ) (x : OpenBox) → d < length bs → stacked (set bs d x) (d + 1) ≡ reach x ∷ stacked bs d
stacked_push bs d x lt =
    ap (stacked (set bs d x)) (add-one d) ∙ ap₂ (λ b rs. reach b ∷ rs) (get_or-set_same bs d x no_box lt) (stacked_set bs d d x (omega arith))

pub stacked_pop : (bs : List OpenBox) (d : ℕ) → 0 < d → stacked bs d ≡ reach (get_or bs (d - 1) no_box) ∷ stacked bs (d - 1)
stacked_pop bs zero p = absurd (omega arith)
stacked_pop bs (suc d) p = let e : d ≡ suc d - 1 = omega arith in ap (λ k. reach (get_or bs k no_box) ∷ stacked bs k) e

pub stacked_move : (bs : List OpenBox) (d n : ℕ) → 0 < d → d ≤ length bs → stacked (set bs (d - 1) (record { first = (get_or bs (d - 1) no_box).first; end = n })) d ≡ moved n (stacked bs d)
stacked_move bs d n p le =
    let x : OpenBox = record { first = (get_or bs (d - 1) no_box).first; end = n } in
    stacked_pop (set bs (d - 1) x) d p
    ∙ ap₂ (λ b rs. reach b ∷ rs) (get_or-set_same bs (d - 1) x no_box (omega arith)) (stacked_set bs (d - 1) (d - 1) x (omega arith))
    ∙ sym (ap (moved n) (stacked_pop bs d p))
