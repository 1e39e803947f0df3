-- What a proof file is, and what its records say. Premises and body may be empty.
use Rattle.std.specs.Prelude.{◌≡◌, ℕ, ◌↔◌, List, ◌∷◌, ◌++◌, map}
use Rattle.fitch.specs.declared.mode.Mode.{Mode}
use Rattle.fitch.specs.declared.rule.Rule.{Rule}
use Rattle.entries.specs.AlgebraFiles
use Rattle.entries.specs.Entries.{Said}
use Rattle.entries.specs.InTurn.{InTurn}
use Rattle.entries.specs.declared.turn.Format.TheVariants.{Proof, Weighing}
use Rattle.entries.specs.declared.turn.Turn.TheVariants.{Start, Parted}

-- an assumption, a step, or a close
pub data Act (F : Type 0) : Type 0 where
  assume : F → Act F
  step : F → Rule → List ℕ → Act F
  close : Act F

abbrev pub act_said : {F : Type 0} → Act F → Said F
act_said (Act.assume p) = Said.assume p
act_said (Act.step p r cs) = Said.step p r cs
act_said Act.close = Said.close

-- a mode, premises, and acts in any order
pub record ProofFile (F : Type 0) : Type 0 where
  pub mode : Mode
  pub premises : List F
  pub body : List (Act F)

-- what its records say, in their order
abbrev pub written : {F : Type 0} → ProofFile F → List (Said F)
written p = Said.mode p.mode ∷ (map Said.premise p.premises ++ map act_said p.body)

-- the records that come in their turns are those of a proof file; before an algebra file, these, a separator, and what may come after it; and that is an algebra file
pub record TurnsOfFiles : Type 0 where
  pub proof : (xs : List (Said ℕ)) → InTurn Proof Start xs ↔ ((p : ProofFile ℕ) × (xs ≡ written p))
  pub weighing :
      (xs : List (Said ℕ))
      → InTurn Weighing Start xs ↔ ((p : ProofFile ℕ) × (ys : List (Said ℕ)) × (xs ≡ written p ++ Said.separator ∷ ys) × InTurn Weighing Parted ys)
  pub algebra : (xs : List (Said ℕ)) → InTurn Weighing Parted xs ↔ ((f : AlgebraFiles.File) × (xs ≡ AlgebraFiles.written f))
