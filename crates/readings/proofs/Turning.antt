-- What an input says whole comes in its turns.
use Rattle.std.proofs.Common.{◌≡◌, ℕ, true, false, List, [], ◌∷◌, Some, None, Option, Ok, Err, Result, sym, refl, subst}
use Rattle.grammar.specs.Formula.{Formula}
use Rattle.grammar.specs.declared.refusal.Refusal.{Refusal}
use Rattle.records.specs.Pieces.{Piece, fields}
use Rattle.answers.specs.declared.fault.Reason.{Reason}
use Rattle.entries.specs.Entries.{Said}
use Rattle.entries.specs.Forms.{onto, given, alone, text, citations, one_number, last_number, form, head_of, entry_form, record_form}
use Rattle.entries.specs.Turns.{follow}
use Rattle.entries.specs.declared.kind.Kind.{Kind}
use Rattle.entries.specs.declared.kind.Kind.TheVariants as kinds
use Rattle.entries.specs.declared.turn.Format.{Format}
use Rattle.entries.specs.declared.turn.Turn.{Turn}
use Rattle.readings.specs.Settled.{AllInTurn}
use Rattle.readings.specs.Reading.{text_of, placed, EntersText, after_form, ByForm, ReadsRecord, Reads, InputSays}
use Rattle.entries.specs.InTurn.{kind_said, InTurn}

-- what is read, if anything is, has a property
abbrev Each : {A E : Type 0} → (A → Type 0) → Result A E → Type 0
Each P (Ok x) = P x
Each P (Err e) = Unit {0}

each_given : {A B : Type 0} (P : B → Type 0) (n : ℕ) (o : Option A) (next : A → Result B ℕ) → ((a : A) → o ≡ Some a → Each P (next a)) → Each P (given n o next)
each_given P n None next h = tt
each_given P n (Some a) next h = h a refl

each_alone : {A : Type 0} (P : A → Type 0) (x : A) (n : ℕ) (fs : List (List ℕ)) → P x → Each P (alone x n fs)
each_alone P x n [] p = p
each_alone P x n (f ∷ fs) p = tt

each_onto : {A B : Type 0} (P : B → Type 0) (f : A → B) (r : Result A ℕ) → ((x : A) → r ≡ Ok x → P (f x)) → Each P (onto f r)
each_onto P f (Ok x) h = h x refl
each_onto P f (Err e) h = tt

each_ok : {A E : Type 0} (P : A → Type 0) (r : Result A E) (x : A) → Each P r → r ≡ Ok x → P x
each_ok P r x p e = subst (λ z. Each P z) e p

abbrev OfKind : Kind → Said (List ℕ) → Type 0
OfKind k x = kind_said x ≡ k

each_last : {A : Type 0} (k : Kind) (join : A → ℕ → Said (List ℕ)) (a : A) (fs : List (List ℕ)) → ((n : ℕ) → kind_said (join a n) ≡ k) → Each (OfKind k) (last_number join a fs)
each_last k join a [] h = tt
each_last k join a (f ∷ fs) h = each_given (OfKind k) 3 _ _ (λ n e. each_alone (OfKind k) (join a n) 4 fs (h n))

form_of_kind : (k : Kind) (fs : List (List ℕ)) → Each (OfKind k) (form k fs)
form_of_kind kinds.Mode [] = tt
form_of_kind kinds.Mode (f ∷ fs) = each_given (OfKind kinds.Mode) 2 _ _ (λ m e. each_alone (OfKind kinds.Mode) (Said.mode m) 3 fs refl)
form_of_kind kinds.Premise fs = each_onto (OfKind kinds.Premise) Said.premise (text fs) (λ x e. refl)
form_of_kind kinds.Assume fs = each_onto (OfKind kinds.Assume) Said.assume (text fs) (λ x e. refl)
form_of_kind kinds.Step [] = tt
form_of_kind kinds.Step (f ∷ []) = tt
form_of_kind kinds.Step (f ∷ r ∷ fs) = each_given (OfKind kinds.Step) 3 _ _ (λ k e. each_onto (OfKind kinds.Step) (Said.step f k) (citations fs) (λ cs is. refl))
form_of_kind kinds.Close fs = each_alone (OfKind kinds.Close) Said.close 2 fs refl
form_of_kind kinds.Separator fs = each_alone (OfKind kinds.Separator) Said.separator 2 fs refl
form_of_kind kinds.Base fs = each_onto (OfKind kinds.Base) Said.base (one_number fs) (λ x e. refl)
form_of_kind kinds.Pair [] = tt
form_of_kind kinds.Pair (f ∷ fs) = each_given (OfKind kinds.Pair) 2 _ _ (λ u e. each_last kinds.Pair Said.pair u fs (λ n. refl))
form_of_kind kinds.Nucleus fs = each_onto (OfKind kinds.Nucleus) Said.nucleus (one_number fs) (λ x e. refl)
form_of_kind kinds.Value [] = tt
form_of_kind kinds.Value (f ∷ fs) = each_given (OfKind kinds.Value) 2 _ _ (λ a e. each_last kinds.Value Said.value a fs (λ n. refl))

-- x comes in its turn, and the turn after it is `later`
abbrev Comes : {F : Type 0} → Format → Turn → Said F × Turn → Type 0
Comes format turn r = follow format turn (kind_said r.0) ≡ Some r.1

entry_comes : (format : Format) (turn : Turn) (fs : List (List ℕ)) → Each (Comes format turn) (entry_form format turn fs)
entry_comes format turn fs =
    each_given (Comes format turn) 1 (head_of fs) _
    (λ h e. each_given (Comes format turn) 1 (follow format turn h.0) _
    (λ next is. each_onto (Comes format turn) (λ x. (x, next)) (form h.0 h.1)
    (λ x said. subst (λ k. follow format turn k ≡ Some next) (sym (each_ok (OfKind h.0) (form h.0 h.1) x (form_of_kind h.0 h.1) said)) is)))

form_comes : (format : Format) (turn : Turn) (p : Piece) → Each (Comes format turn) (record_form format turn p)
form_comes format turn (s, true) = entry_comes format turn (fields s)
form_comes format turn (s, false) = tt

kind_placed : (x : Said (List ℕ)) (p : ℕ) → kind_said (placed x p) ≡ kind_said x
kind_placed (Said.mode m) p = refl
kind_placed (Said.premise s) p = refl
kind_placed (Said.assume s) p = refl
kind_placed (Said.step s r cs) p = refl
kind_placed Said.close p = refl
kind_placed Said.separator p = refl
kind_placed (Said.base n) p = refl
kind_placed (Said.pair u v) p = refl
kind_placed (Said.nucleus e) p = refl
kind_placed (Said.value a e) p = refl

entered_kind : (cap : ℕ) (x : Said (List ℕ)) (t : Option (List ℕ)) (fs gs : List Formula) (a : Result (Said ℕ) Refusal) → EntersText cap x t fs gs a → Each (λ y. kind_said y ≡ kind_said x) a
entered_kind cap x None fs gs a p = subst (λ r. Each (λ y. kind_said y ≡ kind_said x) r) (sym p.0) (kind_placed x 0)
entered_kind cap x (Some s) fs gs a p = subst (λ r. Each (λ y. kind_said y ≡ kind_said x) r) (sym p.2) (at p.0)
  where
    at : (r : Result ℕ Refusal) → Each (λ y. kind_said y ≡ kind_said x) (onto (placed x) r)
    at (Ok place) = kind_placed x place
    at (Err refusal) = tt

by_form_comes :
    (cap : ℕ) (format : Format) (turn : Turn) (form : Result (Said (List ℕ) × Turn) ℕ) (fs gs : List Formula) (r : Result (Said ℕ × Turn) Reason)
    → Each (Comes format turn) form → ByForm cap form fs gs r → Each (Comes format turn) r
by_form_comes cap format turn (Err place) fs gs r comes p = subst (λ z. Each (Comes format turn) z) (sym p.0) tt
by_form_comes cap format turn (Ok x) fs gs r comes p = subst (λ z. Each (Comes format turn) z) (sym p.2) (at p.0 (entered_kind cap x.0 (text_of x.0) fs gs p.0 p.1))
  where
    at : (a : Result (Said ℕ) Refusal) → Each (λ y. kind_said y ≡ kind_said x.0) a → Each (Comes format turn) (after_form a x.1)
    at (Ok y) same = subst (λ k. follow format turn k ≡ Some x.1) (sym same) comes
    at (Err refusal) same = tt

record_comes : (cap : ℕ) (format : Format) (turn : Turn) (p : Piece) (fs gs : List Formula) (r : Result (Said ℕ × Turn) Reason) → ReadsRecord cap format turn p fs gs r → Each (Comes format turn) r
record_comes cap format turn p fs gs r reads = by_form_comes cap format turn (record_form format turn p) fs gs r (form_comes format turn p) reads

in_turn : {cap : ℕ} {format : Format} {turn : Turn} {n : ℕ} {ps : List Piece} {fs gs : List Formula} {xs : List (Said ℕ)} → Reads cap format turn n ps fs gs xs None → InTurn format turn xs
in_turn (Reads.done full) = InTurn.end full
in_turn {cap} {format} {turn} {fs = fs} (Reads.next {p = p} gs x later here rest) = InTurn.more later (record_comes cap format turn p fs gs (Ok (x, later)) here) (in_turn rest)

pub all_in_turn : AllInTurn
all_in_turn capacity format s fs gs xs (InputSays.read short reads) = in_turn reads
