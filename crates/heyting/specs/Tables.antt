-- How a frame is kept and computed: the order as a table of sets of worlds.
use Rattle.std.specs.Prelude.{ℕ, zero, suc, ◌-◌, ◌^◌, ◌<◌, Bool, true, cond, not, ◌&&◌, ◌||◌, List, nat_lt, slice_index}
use Rattle.std.specs.Int.Bits.{bit_and, bit_or}
use Rattle.heyting.specs.Meaning.{Meaning}
use Rattle.heyting.specs.Worlds.{holds}

-- p holds of every world below n
abbrev pub each : (ℕ → Bool) → ℕ → Bool
each p zero = true
each p (suc n) = p n && each p n

-- the set of the worlds below n of which p holds
abbrev pub collect : (ℕ → Bool) → ℕ → ℕ
collect p zero = 0
collect p (suc n) = bit_or (collect p n) (cond (p n) (2 ^ n) 0)

abbrev pub implies : Bool → Bool → Bool
implies a b = not a || b

-- a has with world u every world above it
abbrev pub closed_at : ℕ → (ℕ → ℕ → Bool) → ℕ → ℕ → Bool
closed_at n above a u = each (λ v. implies (holds a u && above u v) (holds a v)) n

-- every world of a at or above u is in b
abbrev pub implied_at : ℕ → (ℕ → ℕ → Bool) → ℕ → ℕ → ℕ → Bool
implied_at n above a b u = each (λ v. implies (above u v && holds a v) (holds b v)) n

-- an algebra of sets of n worlds
abbrev pub of_sets : ℕ → (ℕ → Bool) → (ℕ → ℕ → ℕ) → Meaning
of_sets n member arrow = record {
  span = 2 ^ n;
  member = member;
  bottom = 0;
  top = 2 ^ n - 1;
  meet = bit_and;
  join = bit_or;
  arrow = arrow;
}

-- the frame of n worlds in which world v is at or above world u where `above u v`
abbrev pub kripke : ℕ → (ℕ → ℕ → Bool) → Meaning
kripke n above = of_sets n (λ a. nat_lt a (2 ^ n) && each (closed_at n above a) n) (λ a b. collect (implied_at n above a b) n)

-- whether `above` is reflexive, and transitive, on the worlds below n
abbrev pub reflexive : ℕ → (ℕ → ℕ → Bool) → Bool
reflexive n above = each (λ u. above u u) n

abbrev pub transitive : ℕ → (ℕ → ℕ → Bool) → Bool
transitive n above = each (λ u. each (λ v. each (λ w. implies (above u v && above v w) (above u w)) n) n) n

-- what a list of the worlds at or above each world says
abbrev pub table : List ℕ → ℕ → ℕ → Bool
table up u v = holds (slice_index up u) v

-- the list names worlds below n alone
abbrev pub Within : ℕ → List ℕ → Type 0
Within n up = (u : ℕ) → u < n → slice_index up u < 2 ^ n

-- the order after v is put above u
abbrev pub related : (ℕ → ℕ → Bool) → ℕ → ℕ → ℕ → ℕ → Bool
related above u v w x = above w x || (above w u && above v x)
