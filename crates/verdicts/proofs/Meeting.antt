-- What the places of a sequent have in the buffer that evaluating leaves.
use Rattle.std.proofs.Common.{◌≡◌, ℕ, suc, ◌<◌, ◌≤◌, Bool, List, [], ◌∷◌, map, length, get_or, Ok, Decides, fold, sym, refl, ap, ◌∙◌, subst, arith}
use Rattle.grammar.specs.Contents.{formula_at}
use Rattle.grammar.specs.Formula.{Formula}
use Rattle.heyting.specs.Evaluating.{Evaluated}
use Rattle.heyting.specs.Meaning.{Meaning, Member, Below, Lawful}
use Rattle.heyting.specs.Values.{value, meet_from}
use Rattle.heyting.proofs.Evaluating.{filled, length_filled, filled_all, filled_at}
use Rattle.heyting.proofs.Values.{value_in}
use Rattle.ledger.specs.Sequents.{premise_places}
use Rattle.ledger.specs.declared.sequent.Sequent.{Sequent}
use Rattle.verdicts.specs.Weighing.{AllBelow, Stored, Valued, Weighs, meet_at}

module _ (m : Meaning) (l : Lawful m) (fs : List Formula) (v before after : List ℕ) (evaluated : Evaluated m fs v before after (Ok tt)) where
  full : after ≡ filled m v fs before (length fs)
  full = evaluated.2 ∙ sym (filled_all m v fs before evaluated.0)

  room : length fs ≤ length after
  room = omega (arith, evaluated.0, ap length full, length_filled m v fs before evaluated.0 (length fs) (omega arith))

  value_at : (p : ℕ) → p < length fs → get_or after p 0 ≡ value m v (formula_at fs p)
  value_at p h = ap (λ values. get_or values p 0) full ∙ filled_at m v fs before evaluated.0 (length fs) p (omega arith) h

  pub member_at : (p : ℕ) → p < length fs → Member m (get_or after p 0)
  member_at p h = subst (Member m) (sym (value_at p h)) (value_in m l v evaluated.1 (formula_at fs p))

  pub valued : (places : List ℕ) → AllBelow places (length fs) → Valued m after places
  valued places below k h = (omega (arith, below k h, room), member_at (get_or places k 0) (below k h))

  meet_is : (a : ℕ) (places : List ℕ) → AllBelow places (length fs) → fold (λ b place. m.meet b (get_or after place 0)) a places ≡ meet_from m v a (map (formula_at fs) places)
  meet_is a [] below = refl
  meet_is a (p ∷ places) below =
      meet_is (m.meet a (get_or after p 0)) places (λ k h. below (suc k) (omega arith))
      ∙ ap (λ x. meet_from m v (m.meet a x) (map (formula_at fs) places)) (value_at p (below 0 (omega arith)))

  pub weighs :
      (s : Sequent) → Stored fs s → (meet : ℕ) (holds : Bool)
      → meet ≡ meet_at m after (premise_places s) → Decides holds (Below m meet (get_or after s.conclusion 0))
      → Weighs m fs v s (record { meet = meet; conclusion = get_or after s.conclusion 0; holds = holds })
  weighs s stored meet holds is-meet decides = record {
    meet = is-meet ∙ meet_is m.top (premise_places s) stored.premises;
    conclusion = value_at s.conclusion stored.conclusion;
    holds = decides;
  }
