-- The records that come in their turns are those of a proof file, up to what comes behind it.
use Rattle.std.proofs.Common.{◌≡◌, ℕ, true, List, [], ◌∷◌, ◌++◌, map, Some, Option, refl, sym, ap, ◌∙◌, subst, append-nil}
use Rattle.std.proofs.lemmas.Option.{same_Some}
use Rattle.entries.specs.Entries.{Said}
use Rattle.entries.specs.InTurn.{kind_said, InTurn}
use Rattle.entries.specs.ProofFiles.{Act, act_said, ProofFile, written, TurnsOfFiles}
use Rattle.entries.specs.Turns.{follow, complete}
use Rattle.entries.specs.declared.kind.Kind.TheVariants as kinds
use Rattle.entries.specs.declared.turn.Format.{Format}
use Rattle.entries.specs.declared.turn.Format.TheVariants.{Proof, Weighing}
use Rattle.entries.specs.declared.turn.Turn.{Turn}
use Rattle.entries.specs.declared.turn.Turn.TheVariants.{Start, Premises, Body, Parted, First, Second, Layered, Values}
use Rattle.entries.proofs.Behind.{algebra_files_come}

-- what comes behind a proof file
abbrev Behind : Format → List (Said ℕ) → Type 0
Behind Proof r = r ≡ []
Behind Weighing r = (ys : List (Said ℕ)) × (r ≡ Said.separator ∷ ys) × InTurn Weighing Parted ys

-- what comes from each turn of a proof file on
abbrev Tail : Format → Turn → List (Said ℕ) → Type 0
Tail format Start xs = (p : ProofFile ℕ) × (r : List (Said ℕ)) × (xs ≡ written p ++ r) × Behind format r
Tail format Premises xs = (ps : List ℕ) × (acts : List (Act ℕ)) × (r : List (Said ℕ)) × (xs ≡ (map Said.premise ps ++ map act_said acts) ++ r) × Behind format r
Tail format Body xs = (acts : List (Act ℕ)) × (r : List (Said ℕ)) × (xs ≡ map act_said acts ++ r) × Behind format r
Tail format _ xs = Unit {0}

no_more : (format : Format) (turn : Turn) → complete format turn ≡ true → Tail format turn []
no_more Proof Start full = absurd (cc)
no_more Proof Premises full = ([], [], [], refl, refl)
no_more Proof Body full = ([], [], refl, refl)
no_more Weighing Start full = absurd (cc)
no_more Weighing Premises full = absurd (cc)
no_more Weighing Body full = absurd (cc)
no_more _ Parted full = tt
no_more _ First full = tt
no_more _ Second full = tt
no_more _ Layered full = tt
no_more _ Values full = tt

tail_is : {a b : Turn} (format : Format) (xs : List (Said ℕ)) → ◌≡◌ {A = Option Turn} (Some a) (Some b) → Tail format b xs → Tail format a xs
tail_is {a} {b} format xs e tail = subst (λ t. Tail format t xs) (sym (same_Some a b e)) tail

before_acts : (format : Format) (a : Act ℕ) {xs : List (Said ℕ)} → Tail format Body xs → Tail format Body (act_said a ∷ xs)
before_acts format a t = (a ∷ t.0, t.1, ap (λ ys. act_said a ∷ ys) t.2, t.3)

first_act : (format : Format) (a : Act ℕ) {xs : List (Said ℕ)} → Tail format Body xs → Tail format Premises (act_said a ∷ xs)
first_act format a t = ([], a ∷ t.0, t.1, ap (λ ys. act_said a ∷ ys) t.2, t.3)

module _ {later : Turn} {xs : List (Said ℕ)} where
  parted : (format : Format) → follow format Body kinds.Separator ≡ Some later → InTurn format later xs → Behind format (Said.separator ∷ xs)
  parted Proof e rest = absurd (cc)
  parted Weighing e rest = (xs, refl, subst (λ t. InTurn Weighing t xs) (sym (same_Some Parted later e)) rest)

  from_start : (format : Format) (x : Said ℕ) → follow format Start (kind_said x) ≡ Some later → Tail format later xs → Tail format Start (x ∷ xs)
  from_start format (Said.mode m) e tail =
      let t : Tail format Premises xs = tail_is format xs e tail in
      (record { mode = m; premises = t.0; body = t.1 }, t.2, ap (λ ys. Said.mode m ∷ ys) t.3, t.4)
  from_start format (Said.premise p) e tail = absurd (cc)
  from_start format (Said.assume p) e tail = absurd (cc)
  from_start format (Said.step p r cs) e tail = absurd (cc)
  from_start format Said.close e tail = absurd (cc)
  from_start format Said.separator e tail = absurd (cc)
  from_start format (Said.base n) e tail = absurd (cc)
  from_start format (Said.pair u v) e tail = absurd (cc)
  from_start format (Said.nucleus n) e tail = absurd (cc)
  from_start format (Said.value a n) e tail = absurd (cc)

  from_premises : (format : Format) (x : Said ℕ) → follow format Premises (kind_said x) ≡ Some later → InTurn format later xs → Tail format later xs → Tail format Premises (x ∷ xs)
  from_premises format (Said.mode m) e rest tail = absurd (cc)
  from_premises format (Said.premise p) e rest tail =
      let t : Tail format Premises xs = tail_is format xs e tail in
      (p ∷ t.0, t.1, t.2, ap (λ ys. Said.premise p ∷ ys) t.3, t.4)
  from_premises format (Said.assume p) e rest tail = first_act format (Act.assume p) (tail_is format xs e tail)
  from_premises format (Said.step p r cs) e rest tail = first_act format (Act.step p r cs) (tail_is format xs e tail)
  from_premises format Said.close e rest tail = first_act format Act.close (tail_is format xs e tail)
  from_premises format Said.separator e rest tail = ([], [], Said.separator ∷ xs, refl, parted format e rest)
  from_premises format (Said.base n) e rest tail = absurd (cc)
  from_premises format (Said.pair u v) e rest tail = absurd (cc)
  from_premises format (Said.nucleus n) e rest tail = absurd (cc)
  from_premises format (Said.value a n) e rest tail = absurd (cc)

  from_body : (format : Format) (x : Said ℕ) → follow format Body (kind_said x) ≡ Some later → InTurn format later xs → Tail format later xs → Tail format Body (x ∷ xs)
  from_body format (Said.mode m) e rest tail = absurd (cc)
  from_body format (Said.premise p) e rest tail = absurd (cc)
  from_body format (Said.assume p) e rest tail = before_acts format (Act.assume p) (tail_is format xs e tail)
  from_body format (Said.step p r cs) e rest tail = before_acts format (Act.step p r cs) (tail_is format xs e tail)
  from_body format Said.close e rest tail = before_acts format Act.close (tail_is format xs e tail)
  from_body format Said.separator e rest tail = ([], Said.separator ∷ xs, refl, parted format e rest)
  from_body format (Said.base n) e rest tail = absurd (cc)
  from_body format (Said.pair u v) e rest tail = absurd (cc)
  from_body format (Said.nucleus n) e rest tail = absurd (cc)
  from_body format (Said.value a n) e rest tail = absurd (cc)

  one_before : (format : Format) (turn : Turn) (x : Said ℕ) → follow format turn (kind_said x) ≡ Some later → InTurn format later xs → Tail format later xs → Tail format turn (x ∷ xs)
  one_before format Start x e rest tail = from_start format x e tail
  one_before format Premises x e rest tail = from_premises format x e rest tail
  one_before format Body x e rest tail = from_body format x e rest tail
  one_before format Parted x e rest tail = tt
  one_before format First x e rest tail = tt
  one_before format Second x e rest tail = tt
  one_before format Layered x e rest tail = tt
  one_before format Values x e rest tail = tt

tail : {format : Format} {turn : Turn} {xs : List (Said ℕ)} → InTurn format turn xs → Tail format turn xs
tail {format} {turn} (InTurn.end full) = no_more format turn full
tail {format} {turn} (InTurn.more {x = x} later comes rest) = one_before format turn x comes rest (tail rest)

-- what comes behind may come after premises and after acts
behind_comes : (format : Format) (r : List (Said ℕ)) → Behind format r → InTurn format Premises r × InTurn format Body r
behind_comes Proof r b = subst (λ z. InTurn Proof Premises z × InTurn Proof Body z) (sym b) (InTurn.end refl, InTurn.end refl)
behind_comes Weighing r b = subst (λ z. InTurn Weighing Premises z × InTurn Weighing Body z) (sym b.1) (InTurn.more Parted refl b.2, InTurn.more Parted refl b.2)

module _ (format : Format) where
  after_premises : (a : Act ℕ) → follow format Premises (kind_said (act_said a)) ≡ Some Body
  after_premises (Act.assume p) = refl
  after_premises (Act.step p r cs) = refl
  after_premises Act.close = refl

  after_acts : (a : Act ℕ) → follow format Body (kind_said (act_said a)) ≡ Some Body
  after_acts (Act.assume p) = refl
  after_acts (Act.step p r cs) = refl
  after_acts Act.close = refl

  acts_come : (acts : List (Act ℕ)) (r : List (Said ℕ)) → Behind format r → InTurn format Body (map act_said acts ++ r)
  acts_come [] r b = (behind_comes format r b).1
  acts_come (a ∷ acts) r b = InTurn.more Body (after_acts a) (acts_come acts r b)

  premises_come : (ps : List ℕ) (acts : List (Act ℕ)) (r : List (Said ℕ)) → Behind format r → InTurn format Premises ((map Said.premise ps ++ map act_said acts) ++ r)
  premises_come [] [] r b = (behind_comes format r b).0
  premises_come [] (a ∷ acts) r b = InTurn.more Body (after_premises a) (acts_come acts r b)
  premises_come (p ∷ ps) acts r b = InTurn.more Premises refl (premises_come ps acts r b)

  file_comes : (p : ProofFile ℕ) (r : List (Said ℕ)) → Behind format r → InTurn format Start (written p ++ r)
  file_comes p r b = InTurn.more Premises refl (premises_come p.premises p.body r b)

behind_nothing : (xs : List (Said ℕ)) → Tail Proof Start xs → (p : ProofFile ℕ) × (xs ≡ written p)
behind_nothing xs t = (t.0, t.2 ∙ (ap (λ r. written t.0 ++ r) t.3 ∙ append-nil (written t.0)))

behind_separator : (xs : List (Said ℕ)) → Tail Weighing Start xs → (p : ProofFile ℕ) × (ys : List (Said ℕ)) × (xs ≡ written p ++ Said.separator ∷ ys) × InTurn Weighing Parted ys
behind_separator xs t = (t.0, t.3.0, t.2 ∙ ap (λ r. written t.0 ++ r) t.3.1, t.3.2)

pub turns_of_files : TurnsOfFiles
turns_of_files = record {
  proof = λ xs. (λ turns. behind_nothing xs (tail turns), λ f. subst (λ z. InTurn Proof Start z) (sym (f.1 ∙ sym (append-nil (written f.0)))) (file_comes Proof f.0 [] refl));
  weighing = λ xs. (λ turns. behind_separator xs (tail turns), λ f. subst (λ z. InTurn Weighing Start z) (sym f.2) (file_comes Weighing f.0 (Said.separator ∷ f.1) (f.1, refl, f.3)));
  algebra = algebra_files_come;
}
