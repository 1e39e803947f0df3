-- The records of a fresh store.
use Rattle.std.proofs.Common.{◌≡◌, ℕ, zero, suc, ◌+◌, ◌-◌, ◌<◌, ◌≤◌, Bool, true, false, not, ◌&&◌, List, [], ◌∷◌, ◌++◌, length, get_or, take, set, sym, refl, ap, ◌∙◌, subst, arith}
use Rattle.std.proofs.lemmas.List.{take_more, take_more_set}
use Rattle.std.proofs.lemmas.Bool.{and_from, le-leb, not-true, not_from_false}
use Rattle.std.proofs.lemmas.Bool.Decides.{Decides-below_and}
use Rattle.grammar.specs.Contents.{formula_at, basic, holds, Fitting}
use Rattle.grammar.specs.Records.{parts_below}
use Rattle.grammar.specs.declared.node.Node.{Node}
use Rattle.grammar.specs.declared.node.Node.TheVariants.{Falsum, Letter}
use Rattle.grammar.proofs.Entries.{letters_at}
use Rattle.grammar.proofs.Records.{Good}
use Rattle.grammar.proofs.Sameness.{same_refl}

abbrev letter_records : ℕ → ℕ → List Node
letter_records c zero = []
letter_records c (suc n) = Letter c ∷ letter_records (c + 1) n

abbrev pub basics : List Node
basics = Falsum ∷ letter_records 97 26

records_at : (c n j : ℕ) → j < n → get_or (letter_records c n) j Falsum ≡ Letter (c + j)
records_at c zero j h = absurd (omega arith)
records_at c (suc n) zero h = ap Letter (omega arith)
records_at c (suc n) (suc j) h = records_at (c + 1) n j (omega arith) ∙ ap Letter (omega arith)

basics_at : (i : ℕ) → 1 ≤ i → i < 27 → get_or basics i Falsum ≡ Letter (97 + (i - 1))
basics_at zero h l = absurd (omega arith)
basics_at (suc j) h l = records_at 97 26 j (omega arith) ∙ ap Letter (omega arith)

pub one_more : (ns : List Node) (i : ℕ) → 1 ≤ i → i < 27 → i < length ns → take i ns ≡ take i basics → take (i + 1) (set ns i (Letter (97 + (i - 1)))) ≡ take (i + 1) basics
one_more ns i h l long e =
    take_more_set ns i _ long ∙ (λ t. e t ++ sym (basics_at i h l) t ∷ []) ∙ sym (take_more basics i Falsum l)

abbrev apart : ℕ → Bool
apart i = not (holds (take i basic) (formula_at basic i))

abbrev apart_below : ℕ → Bool
apart_below zero = true
apart_below (suc n) = apart n && apart_below n

all_apart : (i : ℕ) → i < 27 → holds (take i basic) (formula_at basic i) ≡ false
all_apart = (Decides-below_and apart (λ i. holds (take i basic) (formula_at basic i) ≡ false) apart_below (λ i. (not-true _, not_from_false _)) refl (λ _. refl) 27).0 refl

low : (i : ℕ) → i < 27 → parts_below i (get_or basics i Falsum) ≡ true
low zero h = refl
low (suc j) h = ap (parts_below (suc j)) (records_at 97 26 j (omega arith))

fit : (i : ℕ) → i < 27 → Fitting (formula_at basic i)
fit zero h = (omega arith, omega arith, refl)
fit (suc j) h = subst Fitting (sym (letters_at 97 26 j (omega arith))) (omega arith, omega arith, and_from _ _ (le-leb 97 (97 + j) (omega arith)) (le-leb (97 + j) 122 (omega arith)))

pub basics_good : Good basics
basics_good = record { founded = low; base = (omega arith, λ i h. same_refl (formula_at basic i)); once = all_apart; fitting = fit }

pub filled : (ns : List Node) (i : ℕ) → i ≡ 27 → take i ns ≡ take i basics → take 27 ns ≡ basics
filled ns i h e = subst (λ k. take k ns ≡ take k basics) h e
