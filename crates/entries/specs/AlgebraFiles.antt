-- What an algebra file says, and how it is written as entries.
use Rattle.std.specs.Prelude.{ℕ, List, [], ◌∷◌, ◌++◌, map, Some, None, Option}
use Rattle.entries.specs.Entries.{Said}

-- a frame of so many worlds, by pairs of a world and one above it
pub record Base : Type 0 where
  pub worlds : ℕ
  pub pairs : List (ℕ × ℕ)

-- one base or two, the element of a layer, and letters with their elements
pub record File : Type 0 where
  pub first : Base
  pub second : Option Base
  pub layer : Option ℕ
  pub values : List (ℕ × ℕ)

abbrev pub pair_said : ℕ × ℕ → Said ℕ
pair_said p = Said.pair p.0 p.1

abbrev pub value_said : ℕ × ℕ → Said ℕ
value_said v = Said.value v.0 v.1

abbrev pub base_said : Base → List (Said ℕ)
base_said b = Said.base b.worlds ∷ map pair_said b.pairs

abbrev pub layer_said : ℕ → List (Said ℕ)
layer_said e = Said.nucleus e ∷ []

-- a part that may be absent
abbrev pub optional : {A : Type 0} → (A → List (Said ℕ)) → Option A → List (Said ℕ)
optional said None = []
optional said (Some x) = said x

-- the entries of a file, in their order
abbrev pub written : File → List (Said ℕ)
written f = base_said f.first ++ (optional base_said f.second ++ (optional layer_said f.layer ++ map value_said f.values))
