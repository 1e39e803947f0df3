-- The names in fields, and the things that bear them.
use Rattle.std.proofs.Common.{inl, inr, ◌≡◌, ◌≢◌, ℕ, ◌≤◌, ◌==◌, ◌&&◌, nat_le, true, List, [], ◌∷◌, length, Some, None, refl, sym, ap, ◌∙◌, subst, arith, eqb-true, ne_eqb, leb-true, le-leb}
use Rattle.std.proofs.lemmas.Bool.{cases_Bool, cond-true, cond-false, and_parts, and_from, and_left}
use Rattle.std.proofs.lemmas.Option.{same_Some, none-some}
use Rattle.std.proofs.lemmas.Slice.Eq.{bytes_eq-Decides}
use Rattle.std.specs.Fmt.{decimal}
use Rattle.std.specs.Str.{bytes_eq}
use Rattle.fitch.specs.Names.{name_of}
use Rattle.fitch.specs.declared.mode.Mode.{Mode}
use Rattle.fitch.specs.declared.mode.Mode.TheVariants.{Constructive, Classical}
use Rattle.fitch.specs.declared.rule.Rule.{Rule}
use Rattle.records.specs.Numbers.{number}
use Rattle.records.proofs.Decimals.{numbers_are_decimals}
use Rattle.entries.proofs.Steps.{found_passes}
use Rattle.entries.specs.Forms.{kind_named}
use Rattle.entries.specs.Kinds.{byte_of, all_kinds, all_rules, rule_named, mode_letter, mode_named, letter}
use Rattle.entries.specs.Written.{Short}
use Rattle.entries.specs.declared.kind.Kind.{Kind}

pub rule_is : (s : List ℕ) (r : Rule) → rule_named s ≡ Some r → s ≡ name_of r
rule_is s r e = sym ((bytes_eq-Decides (name_of r) s).0 (found_passes (λ k. bytes_eq (name_of k) s) all_rules r e))

pub mode_is : (s : List ℕ) (m : Mode) → mode_named s ≡ Some m → s ≡ mode_letter m
mode_is s m e = sym ((bytes_eq-Decides (mode_letter m) s).0 (found_passes (λ k. bytes_eq (mode_letter k) s) (Constructive ∷ Classical ∷ []) m e))

pub own_letter : (m : Mode) → mode_named (mode_letter m) ≡ Some m
own_letter Constructive = refl
own_letter Classical = refl

pub kind_is : (s : List ℕ) (k : Kind) → kind_named s ≡ Some k → s ≡ byte_of k ∷ []
kind_is [] k e = absurd (cc)
kind_is (b ∷ []) k e = ap (λ c. c ∷ []) (sym (eqb-true (byte_of k) b (found_passes (λ j. byte_of j == b) all_kinds k e)))
kind_is (b ∷ c ∷ bs) k e = absurd (cc)

pub letter_is : (s : List ℕ) (a : ℕ) → letter s ≡ Some a → (s ≡ a ∷ []) × (97 ≤ a) × (a ≤ 122)
letter_is [] a e = absurd (cc)
letter_is (b ∷ []) a e = elim (cases_Bool (length (b ∷ []) == 1 && nat_le 97 b && nat_le b 122)) [
  | inl hit ↦
      let (front, high) = and_parts (length (b ∷ []) == 1 && nat_le 97 b) (nat_le b 122) hit in
      let low : nat_le 97 b ≡ true = (and_parts (length (b ∷ []) == 1) (nat_le 97 b) front).1 in
      let same : b ≡ a = same_Some _ _ (sym (cond-true _ (Some b) None hit) ∙ e) in
      (ap (λ c. c ∷ []) same, subst (λ c. 97 ≤ c) same (leb-true 97 b low), subst (λ c. c ≤ 122) same (leb-true b 122 high))
  | inr miss ↦ absurd (none-some a (sym (cond-false _ (Some b) None miss) ∙ e))
]
letter_is (b ∷ c ∷ bs) a e =
    let long : length (b ∷ c ∷ bs) ≢ 1 = λ one. omega (arith, one) in
    absurd (none-some a (sym (cond-false _ (Some b) None (and_left _ (nat_le b 122) (and_left _ (nat_le 97 b) (ne_eqb (length (b ∷ c ∷ bs)) 1 long)))) ∙ e))

pub letter_of : (a : ℕ) → 97 ≤ a → a ≤ 122 → letter (a ∷ []) ≡ Some a
letter_of a low high = cond-true _ (Some a) None (and_from _ _ (le-leb 97 a low) (le-leb a 122 high))

pub number_is : (s : List ℕ) (n : ℕ) → number s ≡ Some n → (s ≡ decimal n) × Short n
number_is s n e = let (same, short) = (numbers_are_decimals s n).0 e in (same, subst (λ t. length t ≤ 5) same short)

pub number_of : (n : ℕ) → Short n → number (decimal n) ≡ Some n
number_of n short = (numbers_are_decimals (decimal n) n).1 (refl, short)
