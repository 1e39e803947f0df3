-- The checks of a call, in their order: it is accepted where all pass, and refused by the first that fails.
use Rattle.std.specs.Prelude.{◌≡◌, ◌⊎◌, List, [], ◌∷◌}
use Rattle.fitch.specs.declared.refusal.Refusal.{Refusal}

-- when a check passes, and by which refusal it fails
pub record Check : Type 1 where
  pub passes : Type 0
  pub fails : Refusal → Type 0

-- a check of P, which fails by e
abbrev pub unless : Refusal → Type 0 → Check
unless e P = record { passes = P; fails = λ d. (d ≡ e) × (P → ⊥) }

abbrev pub Accepted : List Check → Type 0
Accepted [] = Unit {0}
Accepted (c ∷ cs) = c.passes × Accepted cs

abbrev pub Refused : List Check → Refusal → Type 0
Refused [] e = ⊥
Refused (c ∷ cs) e = c.fails e ⊎ (c.passes × Refused cs e)

-- what is accepted is not refused, and what is refused is refused by one refusal
pub record OneAnswer (cs : List Check) : Type 0 where
  pub apart : (e : Refusal) → Accepted cs → Refused cs e → ⊥
  pub single : (e d : Refusal) → Refused cs e → Refused cs d → e ≡ d
