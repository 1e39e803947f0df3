-- Every line is sound, and the conclusion of a sequent follows from its premises.
use Rattle.std.proofs.Common.{ℕ, List, map, Ok, Err, IfOk, Result, sym, subst}
use native.Mathlib.Decide.{ℕ_discrete}
use Rattle.grammar.specs.Contents.{formula_at}
use Rattle.grammar.specs.Formula.{Formula}
use Rattle.fitch.specs.Exact.{Concludes}
use Rattle.fitch.specs.History.{History, premises, in_force}
use Rattle.fitch.specs.Records.{Reach}
use Rattle.fitch.specs.declared.mode.Mode.{Mode}
use Rattle.fitch.specs.declared.refusal.Refusal.{Refusal}
use Rattle.ledger.specs.Recorded.{Gathers, Derives}
use Rattle.ledger.specs.declared.line.Line.{Line}
use Rattle.ledger.specs.Telling.{Tells, LineTold}
use Rattle.ledger.specs.declared.line.LineInfo.{LineInfo}
use Rattle.ledger.specs.Sequents.{SequentOf, premise_places}
use Rattle.ledger.specs.declared.sequent.Sequent.{Sequent}
use Rattle.ledger.proofs.Recording.{settled}
use Rattle.soundness.specs.Soundness.{Entails, Sound}
use Rattle.soundness.proofs.Sound.{sound, conclusions_follow_lem}
use Rattle.derivations.specs.Derived.{Derived}
use Rattle.derivations.specs.Finished.{Finished, formulas_by, LineEntailed}
use Rattle.derivations.specs.declared.open.Open.{Open}
use Rattle.derivations.specs.declared.sealed.Sealed.{Sealed}

module _ {mode : Mode} {fs : List Formula} {es : List Line} {n : ℕ} {h : History} where
  pub gathers_sound : Gathers mode fs es n h → Sound mode h
  gathers_sound x = sound mode h x.written

  module _ {p : ℕ} {ts : List Reach} where
    pub derives_sound : Derives mode fs es n p ts h → Sound mode h
    derives_sound x = sound mode h x.written

    pub derives_entails : (A : Formula) → Derives mode fs es n p ts h → Concludes h A → Entails mode (premises h) A
    derives_entails A x k = conclusions_follow_lem mode h A x.written k

pub derived_sound : (o : Open) (h : History) → Derived o h → Sound o.mode h
derived_sound o h x = derives_sound x

pub finished_sound : (d : Sealed) (h : History) → Finished d h → Sound d.mode h
finished_sound d h x = derives_sound x

-- what is told of a line is its formula
line_follows : (d : Sealed) (h : History) (i : ℕ) (told : LineInfo) → Finished d h → Tells (formulas_by d) h i told → LineEntailed d h i told
line_follows d h i told x tells = record {
  line = tells.line;
  stands = tells.stands;
  entails = subst (Entails d.mode (in_force h tells.line)) (sym tells.formula) (finished_sound d h x i tells.line tells.stands);
}

pub line_entailed : (d : Sealed) (h : History) (i : ℕ) (r : Result LineInfo Refusal) → Finished d h → LineTold (formulas_by d) h i r → IfOk r (LineEntailed d h i)
line_entailed d h i (Ok told) x tells = line_follows d h i told x tells.1
line_entailed d h i (Err refusal) x tells = tt

-- of a sequent that every history of the derivation has
pub sequent_entails : (d : Sealed) (s : Sequent) → ((h : History) → Finished d h → SequentOf d.mode (formulas_by d) h s)
    → Entails s.mode (map (formula_at (formulas_by d)) (premise_places s)) (formula_at (formulas_by d) s.conclusion)
sequent_entails d s shows m l v members =
    settled (ℕ_discrete _ _) d.recorded (λ r.
    let q = shows r.0 r.1 in
    subst (λ mode. Entails mode (map (formula_at (formulas_by d)) (premise_places s)) (formula_at (formulas_by d) s.conclusion)) (sym q.mode_is)
    (subst (λ As. Entails d.mode As (formula_at (formulas_by d) s.conclusion)) (sym q.premises_are) (conclusions_follow_lem d.mode r.0 _ r.1.written q.concludes)) m l v members)
