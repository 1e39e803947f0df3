-- The records keep why each line stands, and the premises are the first lines.
use Rattle.std.proofs.Common.{◌≡◌, ℕ, zero, suc, ◌-◌, ◌≤◌, List, [], ◌∷◌, ◌++◌, map, length, get_or, take, set, sym, refl, ap, ◌∙◌, arith}
use Rattle.std.proofs.lemmas.List.{length_push, map_push, map-set, length-map, take-append-le, take_all}
use Rattle.grammar.specs.Formula.{Formula}
use Rattle.fitch.specs.History.{History, premise, begin, assume, step, close, count, boxes, premises, Written}
use Rattle.fitch.specs.Records.{innermost, padded, plain, Reach, Kept, blank, with_end, ended, records, table, reasons}
use Rattle.fitch.specs.declared.mode.Mode.{Mode}
use Rattle.fitch.specs.declared.rule.Reason.TheVariants.{Premise, Assumption, Step}
use Rattle.fitch.proofs.Keeping.{count_records}
use Rattle.fitch.proofs.Premises.{all_premises}

-- the end of a box changes nothing else
same_ended : {X : Type 0} (part : Kept → X) → ((k : Kept) (n : ℕ) → part (with_end k n) ≡ part k) → (ts : List Reach) (ks : List Kept) → map part (ended ts ks) ≡ map part ks
same_ended part keeps [] ks = refl
same_ended part keeps (t ∷ ts) ks =
    map-set part ks (t.first - 1) _ ∙ ap (set (map part ks) (t.first - 1)) (keeps _ _) ∙ same ks (t.first - 1)
  where
    same : (ks : List Kept) (i : ℕ) → set (map part ks) i (part (get_or ks i blank)) ≡ map part ks
    same [] zero = refl
    same [] (suc i) = refl
    same (k ∷ ks) zero = refl
    same (k ∷ ks) (suc i) = ap (λ xs. part k ∷ xs) (same ks i)

more_reasons : (h : History) (k : Kept) → map (λ k. k.reason) (records h) ≡ reasons h → map (λ k. k.reason) (records h ++ k ∷ []) ≡ reasons h ++ k.reason ∷ []
more_reasons h k e = map_push (λ k. k.reason) (records h) k ∙ ap (λ xs. xs ++ k.reason ∷ []) e

pub record_reasons : (h : History) → map (λ k. k.reason) (records h) ≡ reasons h
record_reasons [] = refl
record_reasons (premise A ∷ h) = more_reasons h (plain A Premise (innermost (boxes h))) (record_reasons h)
record_reasons (begin ∷ h) = record_reasons h
record_reasons (assume A ∷ h) = more_reasons h (record { formula = A; reason = Assumption; inside = suc (count h); around = innermost (boxes h); end = 0 }) (record_reasons h)
record_reasons (step A r is ∷ h) = more_reasons h (plain A (Step r (padded is)) (innermost (boxes h))) (record_reasons h)
record_reasons (close ∷ h) = same_ended (λ k. k.reason) (λ k n. refl) (table h) (records h) ∙ record_reasons h

-- the formulas of the lines
abbrev pub formulas_of : History → List Formula
formulas_of h = map (λ k. k.formula) (records h)

pub few_premises : (h : History) → length (premises h) ≤ count h
few_premises [] = omega arith
few_premises (premise A ∷ h) = let p = few_premises h in omega (arith, length_push (premises h) A)
few_premises (begin ∷ h) = few_premises h
few_premises (assume A ∷ h) = let p = few_premises h in omega arith
few_premises (step A r is ∷ h) = let p = few_premises h in omega arith
few_premises (close ∷ h) = few_premises h

long : (h : History) → length (formulas_of h) ≡ count h
long h = length-map (records h) (λ k. k.formula) ∙ count_records h

more_lines : (h : History) (k : Kept) → take (length (premises h)) (formulas_of h) ≡ premises h → take (length (premises h)) (map (λ k. k.formula) (records h ++ k ∷ [])) ≡ premises h
more_lines h k e =
    ap (take (length (premises h))) (map_push (λ k. k.formula) (records h) k)
    ∙ take-append-le (length (premises h)) (formulas_of h) _ (let p = few_premises h in omega (arith, long h)) ∙ e

pub premises_first : (mode : Mode) (h : History) → Written mode h → take (length (premises h)) (formulas_of h) ≡ premises h
premises_first mode [] w = refl
premises_first mode (premise A ∷ h) w =
    let n = (all_premises h w.0.0).0 in
    let is = formulas_of (premise A ∷ h) in
    let all : premises h ≡ formulas_of h = sym (premises_first mode h w.1) ∙ take_all (length (premises h)) (formulas_of h) (omega (arith, long h)) in
    take_all (length (premises h ++ A ∷ [])) is (omega (arith, long (premise A ∷ h), length_push (premises h) A))
    ∙ map_push (λ k. k.formula) (records h) (plain A Premise (innermost (boxes h))) ∙ ap (λ xs. xs ++ A ∷ []) (sym all)
premises_first mode (begin ∷ h) w = premises_first mode h w.1
premises_first mode (assume A ∷ h) w = more_lines h (record { formula = A; reason = Assumption; inside = suc (count h); around = innermost (boxes h); end = 0 }) (premises_first mode h w.1)
premises_first mode (step A r is ∷ h) w = more_lines h (plain A (Step r (padded is)) (innermost (boxes h))) (premises_first mode h w.1)
premises_first mode (close ∷ h) w = ap (take (length (premises h))) (same_ended (λ k. k.formula) (λ k n. refl) (table h) (records h)) ∙ premises_first mode h w.1
