-- Fields say a thing just where they are how it is written, and a fault is the first field with which no record begins.
use Rattle.std.proofs.Common.{◌≡◌, ℕ, zero, suc, ◌+◌, ◌≤◌, List, [], ◌∷◌, ◌++◌, take, drop, length, map, Some, Ok, Err, Result, refl, sym, ap, ◌∙◌, subst, arith}
use Rattle.std.proofs.lemmas.List.Elements.{All-head, All-tail}
use Rattle.std.specs.List.{All}
use Rattle.std.specs.Fmt.{decimal}
use Rattle.entries.proofs.Naming.{own_name}
use Rattle.entries.proofs.Fielding.{own_letter, letter_of, number_of}
use Rattle.std.proofs.lemmas.List.{take-append-drop, length-take-le}
use Rattle.entries.proofs.Beginning.{before}
use Rattle.entries.proofs.Faults.{entry_local}
use Rattle.entries.proofs.Saying.{is_written}
use Rattle.entries.specs.Entries.{Said}
use Rattle.entries.specs.Forms.{onto, given, numbers, citations, form, head_of, entry_form}
use Rattle.entries.specs.InTurn.{kind_said}
use Rattle.entries.specs.Turns.{follow}
use Rattle.entries.specs.Written.{fields_of, Short, InForm, Begins, RecordsAreWritten}
use Rattle.entries.specs.declared.turn.Format.{Format}
use Rattle.entries.specs.declared.turn.Turn.{Turn}

numbers_read : (n most : ℕ) (cs : List ℕ) → length cs ≤ most → All Short cs → numbers n most (map decimal cs) ≡ Ok cs
numbers_read n most [] few short = refl
numbers_read n zero (c ∷ cs) few short = absurd (omega (arith, few))
numbers_read n (suc most) (c ∷ cs) few short =
    ap (λ o. given n o (λ v. onto (λ vs. v ∷ vs) (numbers (n + 1) most (map decimal cs)))) (number_of c (All-head Short c cs short))
    ∙ ap (onto (λ vs. c ∷ vs)) (numbers_read (n + 1) most cs (omega (arith, few)) (All-tail Short c cs short))

citations_read : (cs : List ℕ) → 1 ≤ length cs → length cs ≤ 3 → All Short cs → citations (map decimal cs) ≡ Ok cs
citations_read [] some few short = absurd (omega (arith, some))
citations_read (c ∷ cs) some few short = numbers_read 4 3 (c ∷ cs) few short

-- the fields after the kind
abbrev behind : List (List ℕ) → List (List ℕ)
behind [] = []
behind (f ∷ fs) = fs

form_reads : (x : Said (List ℕ)) → InForm x → form (kind_said x) (behind (fields_of x)) ≡ Ok x
form_reads (Said.mode m) i = rw (own_letter m) refl
form_reads (Said.premise t) i = refl
form_reads (Said.assume t) i = refl
form_reads (Said.step t r cs) i = rw (own_name r) (ap (onto (Said.step t r)) (citations_read cs i.0 i.1 i.2))
form_reads Said.close i = refl
form_reads Said.separator i = refl
form_reads (Said.base n) i = rw (number_of n i) refl
form_reads (Said.pair u v) i = rw (number_of u i.0) (rw (number_of v i.1) refl)
form_reads (Said.nucleus e) i = rw (number_of e i) refl
form_reads (Said.value a e) i = rw (letter_of a i.0 i.1) (rw (number_of e i.2) refl)

head_reads : (x : Said (List ℕ)) → head_of (fields_of x) ≡ Some (kind_said x, behind (fields_of x))
head_reads (Said.mode m) = refl
head_reads (Said.premise t) = refl
head_reads (Said.assume t) = refl
head_reads (Said.step t r cs) = refl
head_reads Said.close = refl
head_reads Said.separator = refl
head_reads (Said.base n) = refl
head_reads (Said.pair u v) = refl
head_reads (Said.nucleus e) = refl
head_reads (Said.value a e) = refl

written_says : (format : Format) (turn next : Turn) (x : Said (List ℕ)) → InForm x → follow format turn (kind_said x) ≡ Some next → entry_form format turn (fields_of x) ≡ Ok (x, next)
written_says format turn next x i comes = rw (head_reads x) (rw comes (rw (form_reads x i) refl))

no_beginning : (fs : List (List ℕ)) (format : Format) (turn : Turn) (n : ℕ) → entry_form format turn fs ≡ Err n → n ≤ length fs → Begins format turn (take n fs) → ⊥
no_beginning fs format turn n e there (rest, x, next, same, proper, comes) =
    let cut : take n fs ++ drop n fs ≡ fs = take-append-drop n fs in
    let still : entry_form format turn (take n fs ++ rest) ≡ Err n = entry_local format turn (take n fs) (drop n fs) rest n (ap (entry_form format turn) cut ∙ e) (omega (arith, length-take-le n fs there, there)) in
    let says : entry_form format turn (fields_of x) ≡ Ok (x, next) = written_says format turn next x proper comes in
    let both : ◌≡◌ {A = Result (Said (List ℕ) × Turn) ℕ} (Ok (x, next)) (Err n) = sym says ∙ (sym (ap (entry_form format turn) same) ∙ still) in
    absurd (cc)

pub records_are_written : RecordsAreWritten
records_are_written = record {
  form = λ fs format turn next x. (is_written format turn next x fs, λ w. subst (λ gs. entry_form format turn gs ≡ Ok (x, next)) (sym w.0) (written_says format turn next x w.1 w.2));
  fault = λ fs format turn n e. ((before format turn fs n e).0, (before format turn fs n e).1, no_beginning fs format turn n e);
}
