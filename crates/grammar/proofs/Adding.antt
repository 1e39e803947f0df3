-- What adding and entering a formula keep.
use Rattle.std.proofs.Common.{◌≡◌, ℕ, ◌+◌, ◌<◌, ◌≤◌, false, List, [], ◌∷◌, ◌++◌, length, sym, refl, ap, ◌∙◌, subst, ⊎_elim, arith}
use Rattle.std.proofs.lemmas.List.{get_or_append_left, get_or_push, take_at, take-append-le, length_push}
use Rattle.std.proofs.lemmas.Bool.{cond_both, cases_lt}
use Rattle.grammar.specs.Formula.{Formula, joins}
use Rattle.grammar.specs.Formula.Formula.{falsum, letter, joined}
use Rattle.grammar.specs.Contents.{formula_at, basic, same, holds, added, entered, Fitting, Base, Once, AllFitting}
use Rattle.grammar.specs.EnteringLaws.{Part, EnteringLaws}
use Rattle.grammar.specs.EnteringLaws.Part.{whole, first, second}

abbrev Longer : List Formula → ℕ → List Formula → Type 0
Longer fs n gs = (length fs ≤ length gs) × (length gs ≤ length fs + n)

pub added_long : (fs : List Formula) (f : Formula) → Longer fs 1 (added fs f)
added_long fs f = cond_both (holds fs f) fs (fs ++ f ∷ []) (Longer fs 1) (λ e. omega arith) (λ e. omega (arith, length_push fs f))

pub added_keeps : (fs : List Formula) (f : Formula) (p : ℕ) → p < length fs → formula_at (added fs f) p ≡ formula_at fs p
added_keeps fs f p h = cond_both (holds fs f) fs (fs ++ f ∷ []) (λ l. formula_at l p ≡ formula_at fs p) (λ e. refl) (λ e. get_or_append_left fs (f ∷ []) falsum p h)

-- what holds of the old places and of a new one
pushed_each : (fs : List Formula) (f : Formula) (P : ℕ → Type 0) → ((i : ℕ) → i < length fs → P i) → P (length fs) → (i : ℕ) → i < length (fs ++ f ∷ []) → P i
pushed_each fs f P old new i h = ⊎_elim (old i) (λ l. let e : length fs ≡ i = omega (arith, length_push fs f) in subst P e new) (cases_lt i (length fs))

pushed_once : (fs : List Formula) (f : Formula) → Once fs → holds fs f ≡ false → Once (fs ++ f ∷ [])
pushed_once fs f once new =
    pushed_each fs f _
    (λ i h. (λ t. holds (take-append-le i fs (f ∷ []) (omega arith) t) (get_or_append_left fs (f ∷ []) falsum i h t)) ∙ once i h)
    ((λ t. holds (take_at fs (f ∷ []) (length fs) refl t) (get_or_push fs f falsum (length fs) refl t)) ∙ new)

pushed_fitting : (fs : List Formula) (f : Formula) → AllFitting fs → Fitting f → AllFitting (fs ++ f ∷ [])
pushed_fitting fs f all fit =
    pushed_each fs f _ (λ i h. subst Fitting (sym (get_or_append_left fs (f ∷ []) falsum i h)) (all i h)) (subst Fitting (sym (get_or_push fs f falsum (length fs) refl)) fit)

pub added_once : (fs : List Formula) (f : Formula) → Once fs → Once (added fs f)
added_once fs f once = cond_both (holds fs f) fs (fs ++ f ∷ []) Once (λ e. once) (λ e. pushed_once fs f once e)

pub added_fitting : (fs : List Formula) (f : Formula) → AllFitting fs → Fitting f → AllFitting (added fs f)
added_fitting fs f all fit = cond_both (holds fs f) fs (fs ++ f ∷ []) AllFitting (λ e. all) (λ e. pushed_fitting fs f all fit)

pub added_base : (fs : List Formula) (f : Formula) → Base fs → Base (added fs f)
added_base fs f base = (omega (arith, added_long fs f, base.0), λ i h. ap (λ g. same g (formula_at basic i)) (added_keeps fs f i (omega (arith, base.0))) ∙ base.1 i h)

pub entered_long : (fs : List Formula) (f : Formula) → Longer fs (joins f) (entered fs f)
entered_long fs falsum = omega arith
entered_long fs (letter c) = omega arith
entered_long fs (joined k f g) =
    let a = entered_long fs f in
    let b = entered_long (entered fs f) g in
    let c = added_long (entered (entered fs f) g) (joined k f g) in
    (omega arith, omega arith)

pub entered_keeps : (fs : List Formula) (f : Formula) (p : ℕ) → p < length fs → formula_at (entered fs f) p ≡ formula_at fs p
entered_keeps fs falsum p h = refl
entered_keeps fs (letter c) p h = refl
entered_keeps fs (joined k f g) p h =
    let a = entered_long fs f in
    let b = entered_long (entered fs f) g in
    added_keeps (entered (entered fs f) g) (joined k f g) p (omega arith) ∙ entered_keeps (entered fs f) g p (omega arith) ∙ entered_keeps fs f p h

pub entered_once : (fs : List Formula) (f : Formula) → Once fs → Once (entered fs f)
entered_once fs falsum once = once
entered_once fs (letter c) once = once
entered_once fs (joined k f g) once = added_once _ (joined k f g) (entered_once (entered fs f) g (entered_once fs f once))

-- what is new

added_last : (fs : List Formula) (f : Formula) (p : ℕ) → length fs ≤ p → p < length (added fs f) → formula_at (added fs f) p ≡ f
added_last fs f p h =
    cond_both (holds fs f) fs (fs ++ f ∷ []) (λ l. p < length l → formula_at l p ≡ f) (λ e l. absurd (omega arith)) (λ e l. get_or_push fs f falsum p (omega (arith, length_push fs f)))

parts_only : (fs : List Formula) (f : Formula) (p : ℕ) → length fs ≤ p → p < length (entered fs f) → Part (formula_at (entered fs f) p) f
parts_only fs falsum p h l = absurd (omega arith)
parts_only fs (letter c) p h l = absurd (omega arith)
parts_only fs (joined k f g) p h l =
    let one = entered fs f in
    let two = entered one g in
    let whole_is : length two ≤ p → Part (formula_at (added two (joined k f g)) p) (joined k f g) =
    λ a. subst (λ x. Part x (joined k f g)) (sym (added_last two (joined k f g) p a l)) whole in
    let from_first : p < length one → Part (formula_at two p) (joined k f g) =
    λ b. subst (λ x. Part x (joined k f g)) (sym (entered_keeps one g p b)) (first (parts_only fs f p h b)) in
    let from_part : p < length two → Part (formula_at (added two (joined k f g)) p) (joined k f g) =
    λ a. subst (λ x. Part x (joined k f g)) (sym (added_keeps two (joined k f g) p a)) (⊎_elim from_first (λ b. second (parts_only one g p b a)) (cases_lt p (length one))) in
    ⊎_elim from_part whole_is (cases_lt p (length two))

pub entering_laws : EnteringLaws
entering_laws = record { stays = entered_keeps; parts_only = parts_only; few = λ fs f. (entered_long fs f).1; once = entered_once }
