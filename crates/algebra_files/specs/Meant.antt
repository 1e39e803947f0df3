-- Which algebra a file means, and which elements it gives to letters.
use Rattle.std.specs.Prelude.{◌≡◌, ℕ, ◌+◌, ◌<◌, List, length, Some, None, Option, slice_index, slice_index_or}
use Rattle.heyting.specs.Layers.{Pairable, product, nucleus}
use Rattle.heyting.specs.Loading.{Loadable}
use Rattle.heyting.specs.Meaning.{Meaning, Member}
use Rattle.heyting.specs.Worlds.{FrameOf}
use Rattle.entries.specs.AlgebraFiles.{Base, File}

-- a base can be loaded, and is the frame m
pub record Loads (b : Base) (m : Meaning) : Type 0 where
  pub loadable : Loadable b.worlds b.pairs
  pub frame : FrameOf b.worlds b.pairs m

-- two bases can be loaded and paired, and m is their product in this order
pub record Paired (first second : Base) (m : Meaning) : Type 0 where
  pub left : Meaning
  pub right : Meaning
  pub left_is : Loads first left
  pub right_is : Loads second right
  pub small : Pairable left right
  pub product_is : m ≡ product left right

-- what stands below the layer: the frame of one base, or the product of two
abbrev pub Founds : Base → Option Base → Meaning → Type 0
Founds first None m = Loads first m
Founds first (Some second) m = Paired first second m

-- m is the layer over another algebra at an element of it, or that algebra where there is no layer
abbrev pub Layered : Meaning → Option ℕ → Meaning → Type 0
Layered below None m = m ≡ below
Layered below (Some e) m = Member below e × (m ≡ nucleus below e)

-- a file can be made into the algebra m
pub record Means (f : File) (m : Meaning) : Type 0 where
  pub below : Meaning
  pub founded : Founds f.first f.second below
  pub layered : Layered below f.layer m

abbrev pub Gives : List (ℕ × ℕ) → ℕ → ℕ → Type 0
Gives vs k byte = (slice_index_or vs k (0, 0)).0 ≡ byte

-- the value at index k is the last for a letter, by its byte
pub record LastFor (vs : List (ℕ × ℕ)) (byte : ℕ) (k : ℕ) : Type 0 where
  pub within : k < length vs
  pub here : Gives vs k byte
  pub after : (j : ℕ) → k < j → j < length vs → Gives vs j byte → ⊥

-- the element of a letter, by its byte: what its last value gives it, or the bottom where no value is for it
pub data ElementFor (bottom : ℕ) (vs : List (ℕ × ℕ)) (byte : ℕ) : ℕ → Type 0 where
  none : ((k : ℕ) → k < length vs → Gives vs k byte → ⊥) → ElementFor bottom vs byte bottom
  last : (k : ℕ) → LastFor vs byte k → ElementFor bottom vs byte (slice_index_or vs k (0, 0)).1

-- the 26 elements of the letters, from a on
pub record Elements (bottom : ℕ) (vs : List (ℕ × ℕ)) (v : List ℕ) : Type 0 where
  pub all : length v ≡ 26
  pub each : (i : ℕ) → i < 26 → ElementFor bottom vs (97 + i) (slice_index v i)
