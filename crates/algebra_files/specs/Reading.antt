-- Reading entries back: what they say part by part, each part as long as it goes.
use Rattle.std.specs.Prelude.{ℕ, List, [], ◌∷◌, Some, None, Option}
use Rattle.entries.specs.Entries.{Said}
use Rattle.entries.specs.AlgebraFiles.{Base, File}

abbrev pub pairs_in : List (Said ℕ) → List (ℕ × ℕ)
pairs_in [] = []
pairs_in (Said.pair u v ∷ xs) = (u, v) ∷ pairs_in xs
pairs_in (x ∷ xs) = []

abbrev pub after_pairs : List (Said ℕ) → List (Said ℕ)
after_pairs [] = []
after_pairs (Said.pair u v ∷ xs) = after_pairs xs
after_pairs (x ∷ xs) = x ∷ xs

abbrev pub values_in : List (Said ℕ) → List (ℕ × ℕ)
values_in [] = []
values_in (Said.value a e ∷ xs) = (a, e) ∷ values_in xs
values_in (x ∷ xs) = []

abbrev pub after_values : List (Said ℕ) → List (Said ℕ)
after_values [] = []
after_values (Said.value a e ∷ xs) = after_values xs
after_values (x ∷ xs) = x ∷ xs

abbrev pub base_in : List (Said ℕ) → Option Base
base_in [] = None
base_in (Said.base n ∷ xs) = Some (record { worlds = n; pairs = pairs_in xs })
base_in (x ∷ xs) = None

abbrev pub after_base : List (Said ℕ) → List (Said ℕ)
after_base [] = []
after_base (Said.base n ∷ xs) = after_pairs xs
after_base (x ∷ xs) = x ∷ xs

abbrev pub layer_in : List (Said ℕ) → Option ℕ
layer_in [] = None
layer_in (Said.nucleus e ∷ xs) = Some e
layer_in (x ∷ xs) = None

abbrev pub after_layer : List (Said ℕ) → List (Said ℕ)
after_layer [] = []
after_layer (Said.nucleus e ∷ xs) = xs
after_layer (x ∷ xs) = x ∷ xs

-- a file, if no entry is left
abbrev pub whole : File → List (Said ℕ) → Option File
whole f [] = Some f
whole f (x ∷ xs) = None

abbrev pub from_layer : Base → Option Base → List (Said ℕ) → Option File
from_layer first second xs =
    whole (record { first = first; second = second; layer = layer_in xs; values = values_in (after_layer xs) }) (after_values (after_layer xs))

abbrev pub from_second : Option Base → List (Said ℕ) → Option File
from_second None xs = None
from_second (Some first) xs = from_layer first (base_in xs) (after_base xs)

abbrev pub file_in : List (Said ℕ) → Option File
file_in xs = from_second (base_in xs) (after_base xs)
