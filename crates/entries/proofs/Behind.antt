-- The records that come in their turns behind a separator are those of an algebra file.
use Rattle.std.proofs.Common.{◌≡◌, ℕ, true, List, [], ◌∷◌, ◌++◌, map, Some, None, Option, refl, sym, ap, subst}
use Rattle.std.proofs.lemmas.Option.{same_Some}
use Rattle.entries.specs.AlgebraFiles.{Base, File, pair_said, value_said, base_said, layer_said, optional, written}
use Rattle.entries.specs.Entries.{Said}
use Rattle.entries.specs.InTurn.{kind_said, InTurn}
use Rattle.entries.specs.Turns.{follow, complete}
use Rattle.entries.specs.declared.kind.Kind.TheVariants as kinds
use Rattle.entries.specs.declared.turn.Format.TheVariants.{Weighing}
use Rattle.entries.specs.declared.turn.Turn.{Turn}
use Rattle.entries.specs.declared.turn.Turn.TheVariants.{Start, Premises, Body, Parted, First, Second, Layered, Values}

-- what may stand behind the bases
abbrev above : Option ℕ → List (ℕ × ℕ) → List (Said ℕ)
above layer vs = optional layer_said layer ++ map value_said vs

-- what comes from each turn of an algebra file on
abbrev Tail : Turn → List (Said ℕ) → Type 0
Tail Parted xs = (f : File) × (xs ≡ written f)
Tail First xs = (ps : List (ℕ × ℕ)) × (b : Option Base) × (l : Option ℕ) × (vs : List (ℕ × ℕ)) × (xs ≡ map pair_said ps ++ (optional base_said b ++ above l vs))
Tail Second xs = (ps : List (ℕ × ℕ)) × (l : Option ℕ) × (vs : List (ℕ × ℕ)) × (xs ≡ map pair_said ps ++ above l vs)
Tail Layered xs = (vs : List (ℕ × ℕ)) × (xs ≡ map value_said vs)
Tail Values xs = (vs : List (ℕ × ℕ)) × (xs ≡ map value_said vs)
Tail _ xs = Unit {0}

no_more : (turn : Turn) → complete Weighing turn ≡ true → Tail turn []
no_more Parted full = absurd (cc)
no_more First full = ([], None, None, [], refl)
no_more Second full = ([], None, [], refl)
no_more Layered full = ([], refl)
no_more Values full = ([], refl)
no_more Start full = tt
no_more Premises full = tt
no_more Body full = tt

module _ {later : Turn} (xs : List (Said ℕ)) where
  tail_is : (turn : Turn) → ◌≡◌ {A = Option Turn} (Some turn) (Some later) → Tail later xs → Tail turn xs
  tail_is turn e tail = subst (λ t. Tail t xs) (sym (same_Some turn later e)) tail

  from_parted : (x : Said ℕ) → follow Weighing Parted (kind_said x) ≡ Some later → Tail later xs → Tail Parted (x ∷ xs)
  from_parted (Said.base n) e tail = let t = tail_is First e tail in (record { first = record { worlds = n; pairs = t.0 }; second = t.1; layer = t.2; values = t.3 }, ap (λ ys. Said.base n ∷ ys) t.4)
  from_parted _ e tail = absurd (cc)

  from_first : (x : Said ℕ) → follow Weighing First (kind_said x) ≡ Some later → Tail later xs → Tail First (x ∷ xs)
  from_first (Said.base n) e tail = let t = tail_is Second e tail in ([], Some (record { worlds = n; pairs = t.0 }), t.1, t.2, ap (λ ys. Said.base n ∷ ys) t.3)
  from_first (Said.pair u v) e tail = let t = tail_is First e tail in ((u, v) ∷ t.0, t.1, t.2, t.3, ap (λ ys. Said.pair u v ∷ ys) t.4)
  from_first (Said.nucleus a) e tail = let t = tail_is Layered e tail in ([], None, Some a, t.0, ap (λ ys. Said.nucleus a ∷ ys) t.1)
  from_first (Said.value a v) e tail = let t = tail_is Values e tail in ([], None, None, (a, v) ∷ t.0, ap (λ ys. Said.value a v ∷ ys) t.1)
  from_first _ e tail = absurd (cc)

  from_second : (x : Said ℕ) → follow Weighing Second (kind_said x) ≡ Some later → Tail later xs → Tail Second (x ∷ xs)
  from_second (Said.pair u v) e tail = let t = tail_is Second e tail in ((u, v) ∷ t.0, t.1, t.2, ap (λ ys. Said.pair u v ∷ ys) t.3)
  from_second (Said.nucleus a) e tail = let t = tail_is Layered e tail in ([], Some a, t.0, ap (λ ys. Said.nucleus a ∷ ys) t.1)
  from_second (Said.value a v) e tail = let t = tail_is Values e tail in ([], None, (a, v) ∷ t.0, ap (λ ys. Said.value a v ∷ ys) t.1)
  from_second _ e tail = absurd (cc)

  from_values : (x : Said ℕ) → follow Weighing Values (kind_said x) ≡ Some later → Tail later xs → Tail Values (x ∷ xs)
  from_values (Said.value a v) e tail = let t = tail_is Values e tail in ((a, v) ∷ t.0, ap (λ ys. Said.value a v ∷ ys) t.1)
  from_values _ e tail = absurd (cc)

  one_before : (turn : Turn) (x : Said ℕ) → follow Weighing turn (kind_said x) ≡ Some later → Tail later xs → Tail turn (x ∷ xs)
  one_before Parted x e tail = from_parted x e tail
  one_before First x e tail = from_first x e tail
  one_before Second x e tail = from_second x e tail
  one_before Layered x e tail = from_values x e tail
  one_before Values x e tail = from_values x e tail
  one_before Start x e tail = tt
  one_before Premises x e tail = tt
  one_before Body x e tail = tt

tail : {turn : Turn} {xs : List (Said ℕ)} → InTurn Weighing turn xs → Tail turn xs
tail {turn} (InTurn.end full) = no_more turn full
tail {turn} (InTurn.more {x = x} {xs = xs} later comes rest) = one_before xs turn x comes (tail rest)

values_come : (turn : Turn) → complete Weighing turn ≡ true → follow Weighing turn kinds.Value ≡ Some Values → (vs : List (ℕ × ℕ)) → InTurn Weighing turn (map value_said vs)
values_come turn ends given [] = InTurn.end ends
values_come turn ends given (v ∷ vs) = InTurn.more Values given (values_come Values refl refl vs)

above_comes :
    (turn : Turn) → complete Weighing turn ≡ true → follow Weighing turn kinds.Value ≡ Some Values → follow Weighing turn kinds.Nucleus ≡ Some Layered
    → (layer : Option ℕ) (vs : List (ℕ × ℕ)) → InTurn Weighing turn (above layer vs)
above_comes turn ends given over None vs = values_come turn ends given vs
above_comes turn ends given over (Some e) vs = InTurn.more Layered over (values_come Layered refl refl vs)

pairs_come : (turn : Turn) → follow Weighing turn kinds.Pair ≡ Some turn → (ps : List (ℕ × ℕ)) (xs : List (Said ℕ)) → InTurn Weighing turn xs → InTurn Weighing turn (map pair_said ps ++ xs)
pairs_come turn stays [] xs rest = rest
pairs_come turn stays (p ∷ ps) xs rest = InTurn.more turn stays (pairs_come turn stays ps xs rest)

second_comes : (b : Option Base) (layer : Option ℕ) (vs : List (ℕ × ℕ)) → InTurn Weighing First (optional base_said b ++ above layer vs)
second_comes None layer vs = above_comes First refl refl refl layer vs
second_comes (Some b) layer vs = InTurn.more Second refl (pairs_come Second refl b.pairs (above layer vs) (above_comes Second refl refl refl layer vs))

file_comes : (f : File) → InTurn Weighing Parted (written f)
file_comes f = InTurn.more First refl (pairs_come First refl f.first.pairs (optional base_said f.second ++ above f.layer f.values) (second_comes f.second f.layer f.values))

pub algebra_files_come : (xs : List (Said ℕ)) → (InTurn Weighing Parted xs → (f : File) × (xs ≡ written f)) × (((f : File) × (xs ≡ written f)) → InTurn Weighing Parted xs)
algebra_files_come xs = (λ turns. tail turns, λ f. subst (λ z. InTurn Weighing Parted z) (sym f.1) (file_comes f.0))
