-- What stands before the record = comes in the turns of a proof file, and what stands behind it in those of an algebra file.
use Rattle.std.proofs.Common.{◌≡◌, ℕ, suc, ◌+◌, not, false, List, [], ◌∷◌, ◌++◌, map, length, drop, sym, refl, ap, ◌∙◌, subst, append_assoc, arith, length-append}
use Rattle.std.proofs.lemmas.Bool.{cond-true, not_from_false}
use Rattle.std.proofs.lemmas.List.{take_at, drop_at}
use Rattle.std.specs.List.{position_or_len}
use Rattle.entries.specs.Entries.{Said}
use Rattle.entries.specs.InTurn.{InTurn}
use Rattle.entries.specs.ProofFiles.{Act, act_said, ProofFile, written}
use Rattle.entries.specs.declared.turn.Format.TheVariants.{Proof, Weighing}
use Rattle.entries.specs.declared.turn.Turn.TheVariants.{Start, Parted}
use Rattle.entries.proofs.Turning.{turns_of_files}
use Rattle.weighing_files.specs.Weighing.{separates, proof_part, algebra_part}

module _ (ys : List (Said ℕ)) where
  -- where the first separator stands, behind records that are none
  abbrev parting : List (Said ℕ) → ℕ
  parting xs = position_or_len separates (xs ++ Said.separator ∷ ys)

  one_passed : (x : Said ℕ) (xs : List (Said ℕ)) → separates x ≡ false → parting xs ≡ length xs → parting (x ∷ xs) ≡ suc (length xs)
  one_passed x xs none here = cond-true (not (separates x)) (1 + parting xs) 0 (not_from_false (separates x) none) ∙ omega (arith, here)

  act_stays : (a : Act ℕ) → separates (act_said a) ≡ false
  act_stays (Act.assume p) = refl
  act_stays (Act.step p r cs) = refl
  act_stays Act.close = refl

  past_acts : (acts : List (Act ℕ)) → parting (map act_said acts) ≡ length (map act_said acts)
  past_acts [] = refl
  past_acts (a ∷ acts) = one_passed (act_said a) (map act_said acts) (act_stays a) (past_acts acts)

  past_premises : (ps : List ℕ) (acts : List (Act ℕ)) → parting (map Said.premise ps ++ map act_said acts) ≡ length (map Said.premise ps ++ map act_said acts)
  past_premises [] acts = past_acts acts
  past_premises (p ∷ ps) acts = one_passed (Said.premise p) (map Said.premise ps ++ map act_said acts) refl (past_premises ps acts)

  past_file : (p : ProofFile ℕ) → parting (written p) ≡ length (written p)
  past_file p = one_passed (Said.mode p.mode) (map Said.premise p.premises ++ map act_said p.body) refl (past_premises p.premises p.body)

  before : (p : ProofFile ℕ) → proof_part (written p ++ Said.separator ∷ ys) ≡ written p
  before p = take_at (written p) (Said.separator ∷ ys) (parting (written p)) (sym (past_file p))

  behind : (p : ProofFile ℕ) → algebra_part (written p ++ Said.separator ∷ ys) ≡ ys
  behind p =
      ap (drop (parting (written p) + 1)) (sym (append_assoc (written p) (Said.separator ∷ []) ys))
      ∙ drop_at (written p ++ Said.separator ∷ []) ys (parting (written p) + 1) (omega (arith, past_file p, length-append (written p) (Said.separator ∷ [])))

pub proof_comes : (xs : List (Said ℕ)) → InTurn Weighing Start xs → InTurn Proof Start (proof_part xs)
proof_comes xs turns =
    let parts = (turns_of_files.weighing xs).0 turns in
    (turns_of_files.proof (proof_part xs)).1 (parts.0, ap proof_part parts.2 ∙ before parts.1 parts.0)

pub algebra_comes : (xs : List (Said ℕ)) → InTurn Weighing Start xs → InTurn Weighing Parted (algebra_part xs)
algebra_comes xs turns =
    let parts = (turns_of_files.weighing xs).0 turns in
    subst (InTurn Weighing Parted) (sym (ap algebra_part parts.2 ∙ behind parts.1 parts.0)) parts.3
