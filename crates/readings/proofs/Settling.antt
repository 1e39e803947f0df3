-- An input has no two readings.
use Rattle.std.proofs.Common.{◌≡◌, ℕ, ◌+◌, List, ◌∷◌, ◌++◌, map, length, take, drop, take-append-drop, Some, None, Option, Ok, Err, Result, sym, refl, ap, ap₂, ◌∙◌, subst, subst₂, arith}
use Rattle.grammar.specs.Contents.{Once}
use Rattle.grammar.specs.Formula.{Formula}
use Rattle.grammar.specs.Reading.{Read}
use Rattle.grammar.specs.declared.refusal.Refusal.{Refusal}
use Rattle.grammar.proofs.Adding.{entered_once}
use Rattle.grammar.proofs.Readings.{one_answer}
use Rattle.records.specs.Pieces.{Piece}
use Rattle.std.proofs.lemmas.List.{map-append}
use Rattle.entries.specs.Entries.{Said, stored}
use Rattle.entries.specs.Forms.{onto, record_form}
use Rattle.entries.specs.declared.turn.Format.{Format}
use Rattle.entries.specs.declared.turn.Turn.{Turn}
use Rattle.answers.specs.declared.fault.Fault.{Fault}
use Rattle.answers.specs.declared.fault.Fault.TheVariants.{At}
use Rattle.answers.specs.declared.fault.Reason.{Reason}
use Rattle.readings.specs.Reading.{text_of, placed, EntersText, after_form, ByForm, Reads, InputSays}
use Rattle.std.specs.Option.{unwrap_or}
use Rattle.entries.specs.declared.entry.Entry.{Entry}
use Rattle.readings.specs.Answers.{Kept, NoRoom, SaysInto}
use Rattle.readings.specs.Settled.{SameReading, OneReading}

-- two outcomes are the same
abbrev Same : {X : Type 0} → List Formula → List Formula → X → X → Type 0
Same gs hs a b = (a ≡ b) × (gs ≡ hs)

module _ (cap : ℕ) {fs : List Formula} (once : Once fs) where
  enters_text : (x : Said (List ℕ)) (t : Option (List ℕ)) (gs hs : List Formula) (a b : Result (Said ℕ) Refusal) → EntersText cap x t fs gs a → EntersText cap x t fs hs b → Same gs hs a b
  enters_text x None gs hs a b p q = (p.0 ∙ sym q.0, p.1 ∙ sym q.1)
  enters_text x (Some s) gs hs a b p q =
      let same = one_answer s cap fs gs hs p.0 q.0 once p.1 q.1 in
      (p.2 ∙ ap (onto (placed x)) same.0 ∙ sym q.2, same.1)

  by_form : (form : Result (Said (List ℕ) × Turn) ℕ) (gs hs : List Formula) (a b : Result (Said ℕ × Turn) Reason) → ByForm cap form fs gs a → ByForm cap form fs hs b → Same gs hs a b
  by_form (Err place) gs hs a b p q = (p.0 ∙ sym q.0, p.1 ∙ sym q.1)
  by_form (Ok x) gs hs a b p q =
      let same = enters_text x.0 (text_of x.0) gs hs p.0 q.0 p.1 q.1 in
      (p.2 ∙ ap (λ r. after_form r x.1) same.0 ∙ sym q.2, same.1)

  still_once : (s : List ℕ) (gs : List Formula) (a : Result ℕ Refusal) → Read s cap fs gs a → Once gs
  still_once s gs (Ok place) p = subst Once (sym p.0.2.held) (entered_once fs p.0.0 once)
  still_once s gs (Err e) p = subst Once (sym p.1) once

  text_once : (x : Said (List ℕ)) (t : Option (List ℕ)) (gs : List Formula) (a : Result (Said ℕ) Refusal) → EntersText cap x t fs gs a → Once gs
  text_once x None gs a p = subst Once (sym p.1) once
  text_once x (Some s) gs a p = still_once s gs p.0 p.1

  form_once : (form : Result (Said (List ℕ) × Turn) ℕ) (gs : List Formula) (a : Result (Said ℕ × Turn) Reason) → ByForm cap form fs gs a → Once gs
  form_once (Err place) gs a p = subst Once (sym p.1) once
  form_once (Ok x) gs a p = text_once x.0 (text_of x.0) gs p.0 p.1

-- what is read and what is refused is not the same
pub not_both : {X E : Type 0} {x : X} {e : E} → ◌≡◌ {A = Result X E} (Ok x) (Err e) → ⊥
not_both e = absurd (cc)

abbrev fault_at : ℕ → Result (Said ℕ × Turn) Reason → Option Fault
fault_at n (Ok x) = None
fault_at n (Err w) = Some (At n w)

abbrev said_of : Said ℕ → Result (Said ℕ × Turn) Reason → Said ℕ
said_of d (Ok x) = x.0
said_of d (Err w) = d

abbrev turn_of : Turn → Result (Said ℕ × Turn) Reason → Turn
turn_of d (Ok x) = x.1
turn_of d (Err w) = d

module _ (cap : ℕ) (format : Format) where
  reads : {turn : Turn} {n : ℕ} {ps : List Piece} {fs gs hs : List Formula} {xs ys : List (Said ℕ)} {a b : Option Fault}
      → Once fs → Reads cap format turn n ps fs gs xs a → Reads cap format turn n ps fs hs ys b → SameReading gs hs xs ys a b
  reads once (Reads.done p) (Reads.done q) = (refl, refl, refl)
  reads once (Reads.done p) (Reads.absent q) = absurd (cc)
  reads once (Reads.absent p) (Reads.done q) = absurd (cc)
  reads once (Reads.absent p) (Reads.absent q) = (refl, refl, refl)
  reads {turn} {n} {gs = gs} {hs = hs} once (Reads.stop {p = p} {w = v} here) (Reads.stop {w = w} there) =
      let same = by_form cap once (record_form format turn p) gs hs (Err v) (Err w) here there in
      (same.1, refl, ap (fault_at n) same.0)
  reads {turn} {gs = gs} once (Reads.stop {p = p} {w = v} here) (Reads.next hs x later there rest) =
      absurd (not_both (sym (by_form cap once (record_form format turn p) gs hs (Err v) (Ok (x, later)) here there).0))
  reads {turn} {hs = hs} once (Reads.next {p = p} gs x later here rest) (Reads.stop {w = w} there) =
      absurd (not_both (by_form cap once (record_form format turn p) gs hs (Ok (x, later)) (Err w) here there).0)
  reads {turn} {n} {hs = end} {ys = said} {b = b} once (Reads.next {p = p} {ps = ps} gs x later here rest) (Reads.next {xs = ys} hs y after there others) =
      let same = by_form cap once (record_form format turn p) gs hs (Ok (x, later)) (Ok (y, after)) here there in
      let on = reads (form_once cap once (record_form format turn p) gs (Ok (x, later)) here) rest
      (subst₂ (λ t ks. Reads cap format t (n + 1) ps ks end ys b) (sym (ap (turn_of later) same.0)) (sym same.1) others) in
      (on.0, ap₂ (λ z zs. z ∷ zs) (ap (said_of x) same.0) on.1, on.2)

pub one_reading : OneReading
one_reading cap format s fs gs hs xs ys a b once (InputSays.too_long p) (InputSays.too_long q) = (refl, refl, refl)
one_reading cap format s fs gs hs xs ys a b once (InputSays.too_long p) (InputSays.read q reading) = absurd (omega (arith, p, q))
one_reading cap format s fs gs hs xs ys a b once (InputSays.read p reading) (InputSays.too_long q) = absurd (omega (arith, p, q))
one_reading cap format s fs gs hs xs ys a b once (InputSays.read p reading) (InputSays.read q other) = reads cap format once reading other

-- what is read leaves each formula once
reads_once : {cap : ℕ} {format : Format} {turn : Turn} {n : ℕ} {ps : List Piece} {fs gs : List Formula} {xs : List (Said ℕ)} {a : Option Fault} → Once fs → Reads cap format turn n ps fs gs xs a → Once gs
reads_once once (Reads.done p) = once
reads_once once (Reads.absent p) = once
reads_once {cap} {format} {turn} {gs = gs} once (Reads.stop {p = p} {w = w} here) = form_once cap once (record_form format turn p) gs (Err w) here
reads_once {cap} {format} {turn} once (Reads.next {p = p} gs x later here rest) = reads_once (form_once cap once (record_form format turn p) gs (Ok (x, later)) here) rest

pub says_once : {cap : ℕ} {format : Format} {s : List ℕ} {fs gs : List Formula} {xs : List (Said ℕ)} {a : Option Fault} → Once fs → InputSays cap format s fs gs xs a → Once gs
says_once once (InputSays.too_long p) = once
says_once once (InputSays.read p reading) = reads_once once reading

-- an input has room among the entries, or it has none
pub room_or_not : {cap : ℕ} {format : Format} {s : List ℕ} {fs gs hs : List Formula} {es es_a es_b : List (Entry ℕ)} {xs : List (Said ℕ)} {e : Option Fault} → NoRoom s fs gs es es_a → SaysInto cap format s fs hs es es_b xs e → ⊥
room_or_not none some = omega (arith, some.room none.short, none.many)

-- it has a fault or none
pub fault_or_none : {fault : Fault} → ◌≡◌ {A = Option Fault} (Some fault) None → ⊥
fault_or_none e = absurd (cc)

pub same_fault : {a b : Fault} → ◌≡◌ {A = Option Fault} (Some a) (Some b) → a ≡ b
same_fault {a} e = ap (λ o. unwrap_or o a) e

-- what was put into entries settles all that they say then
pub kept_once : {xs : List (Said ℕ)} {before a b : List (Entry ℕ)} → Kept xs before a → Kept xs before b → map stored a ≡ map stored b
kept_once {xs} {before} {a} {b} p q = whole a p ∙ sym (whole b q)
  where
    whole : (es : List (Entry ℕ)) → Kept xs before es → map stored es ≡ xs ++ map stored (drop (length xs) before)
    whole es k = ap (map stored) (sym (take-append-drop (length xs) es)) ∙ map-append stored (take (length xs) es) (drop (length xs) es) ∙ ap₂ (λ ys zs. ys ++ map stored zs) k.said k.rest
