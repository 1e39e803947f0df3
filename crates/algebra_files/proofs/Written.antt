-- A written file is read back, and what is read was so written.
use Rattle.std.proofs.Common.{◌≡◌, ℕ, List, [], ◌∷◌, ◌++◌, map, Some, None, Option, refl, sym, ap, ◌∙◌, append-nil}
use Rattle.entries.specs.Entries.{Said}
use Rattle.entries.specs.AlgebraFiles.{Base, File, pair_said, value_said, base_said, layer_said, optional, written}
use Rattle.algebra_files.specs.Reading.{pairs_in, after_pairs, values_in, after_values, base_in, after_base, layer_in, after_layer, whole, from_layer, from_second, file_in}

-- an entry other than a pair comes first, or none
record Cut (xs : List (Said ℕ)) : Type 0 where
  none : pairs_in xs ≡ []
  all : after_pairs xs ≡ xs

pairs_back : (ps : List (ℕ × ℕ)) (xs : List (Said ℕ)) → Cut xs → pairs_in (map pair_said ps ++ xs) ≡ ps
pairs_back [] xs cut = cut.none
pairs_back (p ∷ ps) xs cut = ap (λ qs. p ∷ qs) (pairs_back ps xs cut)

pairs_over : (ps : List (ℕ × ℕ)) (xs : List (Said ℕ)) → Cut xs → after_pairs (map pair_said ps ++ xs) ≡ xs
pairs_over [] xs cut = cut.all
pairs_over (p ∷ ps) xs cut = pairs_over ps xs cut

values_back : (vs : List (ℕ × ℕ)) → values_in (map value_said vs) ≡ vs
values_back [] = refl
values_back (v ∷ vs) = ap (λ ws. v ∷ ws) (values_back vs)

values_over : (vs : List (ℕ × ℕ)) → after_values (map value_said vs) ≡ []
values_over [] = refl
values_over (v ∷ vs) = values_over vs

abbrev tail : Option ℕ → List (ℕ × ℕ) → List (Said ℕ)
tail layer vs = optional layer_said layer ++ map value_said vs

cut_values : (vs : List (ℕ × ℕ)) → Cut (map value_said vs)
cut_values [] = record { none = refl; all = refl }
cut_values (v ∷ vs) = record { none = refl; all = refl }

cut_tail : (layer : Option ℕ) (vs : List (ℕ × ℕ)) → Cut (tail layer vs)
cut_tail None vs = cut_values vs
cut_tail (Some e) vs = record { none = refl; all = refl }

cut_rest : (second : Option Base) (layer : Option ℕ) (vs : List (ℕ × ℕ)) → Cut (optional base_said second ++ tail layer vs)
cut_rest None layer vs = cut_tail layer vs
cut_rest (Some b) layer vs = record { none = refl; all = refl }

base_back : (b : Base) (xs : List (Said ℕ)) → Cut xs → base_in (base_said b ++ xs) ≡ Some b
base_back b xs cut = ap (λ ps. Some (record { worlds = b.worlds; pairs = ps })) (pairs_back b.pairs xs cut)

base_over : (b : Base) (xs : List (Said ℕ)) → Cut xs → after_base (base_said b ++ xs) ≡ xs
base_over b xs cut = pairs_over b.pairs xs cut

no_base : (layer : Option ℕ) (vs : List (ℕ × ℕ)) → base_in (tail layer vs) ≡ None
no_base None [] = refl
no_base None (v ∷ vs) = refl
no_base (Some e) vs = refl

past_no_base : (layer : Option ℕ) (vs : List (ℕ × ℕ)) → after_base (tail layer vs) ≡ tail layer vs
past_no_base None [] = refl
past_no_base None (v ∷ vs) = refl
past_no_base (Some e) vs = refl

second_back : (second : Option Base) (layer : Option ℕ) (vs : List (ℕ × ℕ)) → base_in (optional base_said second ++ tail layer vs) ≡ second
second_back None layer vs = no_base layer vs
second_back (Some b) layer vs = base_back b (tail layer vs) (cut_tail layer vs)

second_over : (second : Option Base) (layer : Option ℕ) (vs : List (ℕ × ℕ)) → after_base (optional base_said second ++ tail layer vs) ≡ tail layer vs
second_over None layer vs = past_no_base layer vs
second_over (Some b) layer vs = base_over b (tail layer vs) (cut_tail layer vs)

layer_back : (layer : Option ℕ) (vs : List (ℕ × ℕ)) → layer_in (tail layer vs) ≡ layer
layer_back None [] = refl
layer_back None (v ∷ vs) = refl
layer_back (Some e) vs = refl

layer_over : (layer : Option ℕ) (vs : List (ℕ × ℕ)) → after_layer (tail layer vs) ≡ map value_said vs
layer_over None [] = refl
layer_over None (v ∷ vs) = refl
layer_over (Some e) vs = refl

whole_back : (first : Base) (second : Option Base) (layer : Option ℕ) (vs : List (ℕ × ℕ)) (xs : List (Said ℕ)) → xs ≡ map value_said vs
    → whole (record { first = first; second = second; layer = layer; values = values_in xs }) (after_values xs) ≡ Some (record { first = first; second = second; layer = layer; values = vs })
whole_back first second layer vs xs e =
    ap (λ ys. whole (record { first = first; second = second; layer = layer; values = values_in ys }) (after_values ys)) e
    ∙ (ap (λ ys. whole (record { first = first; second = second; layer = layer; values = ys }) (after_values (map value_said vs))) (values_back vs)
    ∙ ap (λ ys. whole (record { first = first; second = second; layer = layer; values = vs }) ys) (values_over vs))

layer_whole : (first : Base) (second : Option Base) (layer : Option ℕ) (vs : List (ℕ × ℕ)) → from_layer first second (tail layer vs) ≡ Some (record { first = first; second = second; layer = layer; values = vs })
layer_whole first second layer vs =
    ap (λ l. whole (record { first = first; second = second; layer = l; values = values_in (after_layer (tail layer vs)) }) (after_values (after_layer (tail layer vs)))) (layer_back layer vs)
    ∙ whole_back first second layer vs (after_layer (tail layer vs)) (layer_over layer vs)

second_whole : (first : Base) (second : Option Base) (layer : Option ℕ) (vs : List (ℕ × ℕ)) (xs : List (Said ℕ)) → xs ≡ optional base_said second ++ tail layer vs
    → from_layer first (base_in xs) (after_base xs) ≡ Some (record { first = first; second = second; layer = layer; values = vs })
second_whole first second layer vs xs e =
    ap (λ ys. from_layer first (base_in ys) (after_base ys)) e
    ∙ (ap (λ s. from_layer first s (after_base (optional base_said second ++ tail layer vs))) (second_back second layer vs)
    ∙ (ap (λ ys. from_layer first second ys) (second_over second layer vs) ∙ layer_whole first second layer vs))

pub read_back : (f : File) → file_in (written f) ≡ Some f
read_back f =
    let rest : List (Said ℕ) = optional base_said f.second ++ tail f.layer f.values in
    let cut : Cut rest = cut_rest f.second f.layer f.values in
    ap (λ b. from_second b (after_base (written f))) (base_back f.first rest cut)
    ∙ second_whole f.first f.second f.layer f.values (after_base (written f)) (base_over f.first rest cut)

pairs_forth : (xs : List (Said ℕ)) → xs ≡ map pair_said (pairs_in xs) ++ after_pairs xs
pairs_forth [] = refl
pairs_forth (Said.pair u v ∷ xs) = ap (λ ys. Said.pair u v ∷ ys) (pairs_forth xs)
pairs_forth (x ∷ xs) = refl

values_forth : (xs : List (Said ℕ)) → xs ≡ map value_said (values_in xs) ++ after_values xs
values_forth [] = refl
values_forth (Said.value a e ∷ xs) = ap (λ ys. Said.value a e ∷ ys) (values_forth xs)
values_forth (x ∷ xs) = refl

base_forth : (xs : List (Said ℕ)) → xs ≡ optional base_said (base_in xs) ++ after_base xs
base_forth [] = refl
base_forth (Said.base n ∷ xs) = ap (λ ys. Said.base n ∷ ys) (pairs_forth xs)
base_forth (x ∷ xs) = refl

layer_forth : (xs : List (Said ℕ)) → xs ≡ optional layer_said (layer_in xs) ++ after_layer xs
layer_forth [] = refl
layer_forth (Said.nucleus e ∷ xs) = refl
layer_forth (x ∷ xs) = refl

whole_forth : (g f : File) (xs : List (Said ℕ)) → whole g xs ≡ Some f → (xs ≡ []) × (g ≡ f)
whole_forth g f [] e = (refl, cc)
whole_forth g f (x ∷ xs) e = cc

pub pairs_end : (xs : List (Said ℕ)) → after_pairs xs ≡ [] → xs ≡ map pair_said (pairs_in xs)
pairs_end xs e = pairs_forth xs ∙ (ap (λ ys. map pair_said (pairs_in xs) ++ ys) e ∙ append-nil (map pair_said (pairs_in xs)))

pub values_end : (xs : List (Said ℕ)) → after_values xs ≡ [] → xs ≡ map value_said (values_in xs)
values_end xs e = values_forth xs ∙ (ap (λ ys. map value_said (values_in xs) ++ ys) e ∙ append-nil (map value_said (values_in xs)))

rest_forth : (xs : List (Said ℕ)) → after_values (after_layer (after_base xs)) ≡ []
    → xs ≡ optional base_said (base_in xs) ++ (optional layer_said (layer_in (after_base xs)) ++ map value_said (values_in (after_layer (after_base xs))))
rest_forth xs e =
    base_forth xs
    ∙ ap (λ ys. optional base_said (base_in xs) ++ ys)
    (layer_forth (after_base xs) ∙ ap (λ ys. optional layer_said (layer_in (after_base xs)) ++ ys) (values_end (after_layer (after_base xs)) e))

second_forth : (f : File) (first : Option Base) (xs ys : List (Said ℕ)) → xs ≡ optional base_said first ++ ys → from_second first ys ≡ Some f → xs ≡ written f
second_forth f None xs ys e h = cc
second_forth f (Some b) xs ys e h =
    let r = whole_forth (record { first = b; second = base_in ys; layer = layer_in (after_base ys); values = values_in (after_layer (after_base ys)) }) f (after_values (after_layer (after_base ys))) h in
    e ∙ (ap (λ zs. base_said b ++ zs) (rest_forth ys r.0) ∙ ap written r.1)

pub read_forth : (f : File) (xs : List (Said ℕ)) → file_in xs ≡ Some f → xs ≡ written f
read_forth f xs h = second_forth f (base_in xs) xs (after_base xs) (base_forth xs) h

not_whole : (f : File) (xs : List (Said ℕ)) → (xs ≡ [] → ⊥) → whole f xs ≡ None
not_whole f [] h = absurd (h refl)
not_whole f (x ∷ xs) h = refl

pub read_not : (xs zs : List (Said ℕ)) (b : Base) → Some b ≡ base_in xs → zs ≡ after_layer (after_base (after_base xs)) → (after_values zs ≡ [] → ⊥) → None ≡ file_in xs
read_not xs zs b first left more =
    let ys : List (Said ℕ) = after_base xs in
    let f : File = record { first = b; second = base_in ys; layer = layer_in (after_base ys); values = values_in (after_layer (after_base ys)) } in
    sym (not_whole f (after_values (after_layer (after_base ys))) (λ e. more (ap after_values left ∙ e))) ∙ ap (λ o. from_second o ys) first
