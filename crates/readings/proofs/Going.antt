-- Records are read one after the other.
use Rattle.std.proofs.Common.{◌≡◌, ℕ, ◌+◌, ◌<◌, ◌≤◌, true, false, min, List, [], ◌∷◌, ◌++◌, map, length, take, drop, slice_set, Some, None, Option, Ok, Err, inl, inr, ⊎_elim, sym, refl, ap, ◌∙◌, subst, append_assoc, append-nil, arith}
use Rattle.std.proofs.lemmas.List.{drop-drop, drop-set-lt, length-take, length-map, length-set, map-append, take_more_set}
use Rattle.grammar.specs.Formula.{Formula}
use Rattle.grammar.specs.Limits.{most_records}
use Rattle.formulas.specs.Stores.{capacity, OthersStay}
use Rattle.formulas.specs.declared.store.Store.{Store}
use Rattle.records.specs.Pieces.{Piece, records}
use Rattle.answers.specs.declared.fault.Fault.{Fault}
use Rattle.answers.specs.declared.fault.Fault.TheVariants.{TooLong, At}
use Rattle.answers.specs.declared.fault.Reason.TheVariants.{Form}
use Rattle.entries.specs.Entries.{Said, stored}
use Rattle.entries.specs.Turns.{complete}
use Rattle.entries.specs.declared.entry.Entry.{Entry}
use Rattle.entries.specs.declared.turn.Format.{Format}
use Rattle.entries.specs.declared.turn.Turn.{Turn}
use Rattle.entries.specs.declared.turn.Turn.TheVariants.{Start}
use Rattle.readings.specs.Answers.{Kept, ReadsNumbered, RecordsRead}
use Rattle.readings.specs.Reading.{Reads, ReadsRecord}

-- the first n entries are written, and the rest is as it was
abbrev pub KeptTo : ℕ → List (Entry ℕ) → List (Entry ℕ) → Type 0
KeptTo n before es = (length es ≡ length before) × (drop n es ≡ drop n before)

abbrev pub front : ℕ → List (Entry ℕ) → List (Said ℕ)
front n es = map stored (take n es)

one_further : {A : Type 0} (n : ℕ) (xs ys : List A) → drop n xs ≡ drop n ys → drop (n + 1) xs ≡ drop (n + 1) ys
one_further {A = A} n xs ys e = sym (split xs) ∙ ap (drop 1) e ∙ split ys
  where
    split : (zs : List A) → drop 1 (drop n zs) ≡ drop (n + 1) zs
    split zs = drop-drop 1 n zs ∙ ap (λ k. drop k zs) (omega arith)

pub one_kept : (n : ℕ) (before es : List (Entry ℕ)) (x : Entry ℕ) → KeptTo n before es → KeptTo (n + 1) before (slice_set es n x)
one_kept n before es x kept = (length-set es n x ∙ kept.0, drop-set-lt (n + 1) es n x (omega arith) ∙ one_further n es before kept.1)

pub front_more : (n : ℕ) (es : List (Entry ℕ)) (x : Entry ℕ) → n < length es → front (n + 1) (slice_set es n x) ≡ front n es ++ stored x ∷ []
front_more n es x lt = ap (map stored) (take_more_set es n x lt) ∙ map-append stored (take n es) (x ∷ [])

front_long : (n : ℕ) (es : List (Entry ℕ)) → n ≤ length es → length (front n es) ≡ n
front_long n es le = omega (arith, length-map (take n es) stored, length-take n es)

kept : (n : ℕ) (before es : List (Entry ℕ)) → n ≤ length es → KeptTo n before es → Kept (front n es) before es
kept n before es le k = record {
  long = k.0;
  said = ap (λ i. front i es) (front_long n es le);
  rest = subst (λ i. drop i es ≡ drop i before) (sym (front_long n es le)) k.1;
}

module _ (cap : ℕ) (format : Format) (s : List ℕ) (fs : List Formula) where
  -- after n records, which say xs, those that are left go on from here
  abbrev pub SoFar : Turn → ℕ → List (Said ℕ) → List Piece → List Formula → Type 0
  SoFar turn n xs ps gs =
      (hs : List Formula) (ys : List (Said ℕ)) (e : Option Fault) → Reads cap format turn (n + 1) ps gs hs ys e → Reads cap format Start 1 (records s) fs hs (xs ++ ys) e

  pub none_yet : SoFar Start 0 [] (records s) fs
  none_yet hs ys e reads = reads

  pub one_more :
      (turn later : Turn) (n : ℕ) (xs : List (Said ℕ)) (p : Piece) (ps : List Piece) (gs gs_then : List Formula) (x : Said ℕ)
      → SoFar turn n xs (p ∷ ps) gs → ReadsRecord cap format turn p gs gs_then (Ok (x, later)) → SoFar later (n + 1) (xs ++ x ∷ []) ps gs_then
  one_more turn later n xs p ps gs gs_then x so_far here hs ys e reads =
      subst (λ zs. Reads cap format Start 1 (records s) fs hs zs e) (sym (append_assoc xs (x ∷ []) ys)) (so_far hs (x ∷ ys) e (Reads.next gs_then x later here reads))

  module _ (turn : Turn) (n : ℕ) (before es : List (Entry ℕ)) (within : n ≤ length es) (keeps : KeptTo n before es) where
    ends : (ps : List Piece) (gs hs : List Formula) (e : Option Fault) → SoFar turn n (front n es) ps gs → Reads cap format turn (n + 1) ps gs hs [] e
        → (xs : List (Said ℕ)) × Reads cap format Start 1 (records s) fs hs xs e × Kept xs before es × (n ≡ length xs)
    ends ps gs hs e so_far reads =
        (front n es, subst (λ xs. Reads cap format Start 1 (records s) fs hs xs e) (append-nil (front n es)) (so_far hs [] e reads), kept n before es within keeps, sym (front_long n es within))

    pub stopped_by :
        (p : Piece) (ps : List Piece) (gs hs : List Formula) (fault : Fault)
        → SoFar turn n (front n es) (p ∷ ps) gs → ReadsNumbered cap format turn (n + 1) p gs hs (Err fault) → RecordsRead cap format s fs hs before es (Err fault)
    stopped_by p ps gs hs TooLong so_far here = absurd here
    stopped_by p ps gs hs (At k w) so_far here =
        let end = ends (p ∷ ps) gs hs (Some (At k w)) so_far (subst (λ i. Reads cap format turn (n + 1) (p ∷ ps) gs hs [] (Some (At i w))) (sym here.0) (Reads.stop here.1)) in
        (end.0, end.1, end.2)

    pub all_read : (gs : List Formula) → SoFar turn n (front n es) [] gs → complete format turn ≡ true → RecordsRead cap format s fs gs before es (Ok n)
    all_read gs so_far full = ends [] gs gs None so_far (Reads.done full)

    pub one_absent : (gs : List Formula) → SoFar turn n (front n es) [] gs → complete format turn ≡ false → RecordsRead cap format s fs gs before es (Err (At (n + 1) (Form 1)))
    one_absent gs so_far wanting = let end = ends [] gs gs (Some (At (n + 1) (Form 1))) so_far (Reads.absent wanting) in (end.0, end.1, end.2)

pub same_capacity : {a b : Store} → OthersStay a b → capacity b ≡ capacity a
same_capacity stay = ap (λ n. min n most_records) stay.long

pub still : (a : Store) → OthersStay a a
still a = record { long = refl; longer = omega arith; same = λ k outside. refl }

pub stay_on : {a b c : Store} → OthersStay a b → OthersStay b c → OthersStay a c
stay_on first second = record {
  long = second.long ∙ first.long;
  longer = omega (arith, first.longer, second.longer);
  same = λ k outside. second.same k (⊎_elim (λ lt. inl (omega (arith, lt, first.longer))) inr outside) ∙ first.same k (⊎_elim inl (λ le. inr (omega (arith, le, second.longer))) outside);
}
