-- What the premises entail, a verdict confirms.
use Rattle.std.proofs.Common.{ℕ, List, sym, subst, subst₂}
use Rattle.grammar.specs.Formula.{Formula}
use Rattle.fitch.specs.declared.mode.Mode.{Mode}
use Rattle.fitch.specs.declared.mode.Mode.TheVariants.{Constructive, Classical}
use Rattle.heyting.specs.Meaning.{Meaning, Member, Below, Lawful}
use Rattle.heyting.specs.Values.{ByMembers}
use Rattle.heyting.proofs.Doubles.{twice, below_twice}
use Rattle.heyting.proofs.Lattice.{Elem, arrow, bottom}
use Rattle.heyting.proofs.Meets.{greatest_meet}
use Rattle.heyting.proofs.Nuclei.{close}
use Rattle.heyting.proofs.Values.{value_in}
use Rattle.ledger.specs.declared.sequent.Sequent.{Sequent}
use Rattle.soundness.specs.Soundness.{claim, Entails}
use Rattle.verdicts.specs.Weighing.{premises_of, conclusion_of, Weighs, Confirms}
use Rattle.verdicts.specs.declared.verdict.Verdict.{Verdict}

module _ (m : Meaning) (l : Lawful m) (v : List ℕ) (members : ByMembers m v) (fs : List Formula) (s : Sequent) (verdict : Verdict) (weighs : Weighs m fs v s verdict) where
  claimed : (mode : Mode) → Entails mode (premises_of fs s) (conclusion_of fs s) → Below m verdict.meet (claim mode m verdict.conclusion)
  claimed mode entails = subst₂ (λ a b. Below m a (claim mode m b)) (sym weighs.meet) (sym weighs.conclusion) (entails m l v members)

  -- the meet and the conclusion, as elements
  abbrev meet : Elem m
  meet = record { at = verdict.meet; is = subst (Member m) (sym weighs.meet) (greatest_meet m l v members (premises_of fs s)).member }

  abbrev conclusion : Elem m
  conclusion = record { at = verdict.conclusion; is = subst (Member m) (sym weighs.conclusion) (value_in m l v members (conclusion_of fs s)) }

  pub confirms : (mode : Mode) → Entails mode (premises_of fs s) (conclusion_of fs s) → Confirms mode m verdict
  unfolding twice close arrow bottom
  confirms Constructive entails = weighs.holds.1 (claimed Constructive entails)
  confirms Classical entails =
      let below = claimed Classical entails in
      (below, λ boolean. weighs.holds.1 (below_twice l boolean {x = meet} {a = conclusion} (record { below = below })).below)
