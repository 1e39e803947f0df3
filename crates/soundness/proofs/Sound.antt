-- Every line of a derivation is sound, and so is its conclusion.
use Rattle.std.proofs.Common.{◌≡◌, ℕ, List, [], map, sym, subst, append-nil, arith}
use mathlib.Core.List.{Memᴰ}
use Rattle.grammar.specs.Formula.{Formula}
use Rattle.heyting.specs.Layers.{regular}
use Rattle.heyting.specs.Meaning.{Meaning, Below, Lawful}
use Rattle.heyting.specs.Values.{meet_all, ByMembers}
use Rattle.heyting.proofs.Doubles.{twice, above_twice, twice_mono}
use Rattle.heyting.proofs.Layer.{layer, doubled, layer_lawful, layer_boolean, regular_boolean, raise, doubled_members, layer_value}
use Rattle.heyting.proofs.Lattice.{Elem, ◌⊑◌, arrow, bottom, below_trans}
use Rattle.heyting.proofs.Meets.{worth, greatest_meet}
use Rattle.heyting.proofs.Nuclei.{close, regular_lawful}
use Rattle.fitch.specs.History.{History, Written, premises, in_force}
use Rattle.fitch.specs.declared.mode.Mode.{Mode}
use Rattle.fitch.specs.declared.mode.Mode.TheVariants.{Constructive, Classical}
use Rattle.soundness.specs.Soundness.{Entails, Sound, ConstructiveSound, ClassicalSound, ClassicalInBoolean, ClassicalInLayers, ConclusionsFollow}
use Rattle.soundness.proofs.Lines.{line_holds}

apart : Constructive ≡ Classical → ⊥
apart e = let z : ◌≡◌ {A = ℕ} 0 1 = cc in omega arith

module _ {m : Meaning} (l : Lawful m) (v : List ℕ) (members : ByMembers m v) (As : List Formula) where
  -- the meet of As, as an element
  all : Elem m
  all = record { at = meet_all m v As; is = (greatest_meet m l v members As).member }

  below_each : (A : Formula) → Memᴰ A As → all ⊑ worth m l v members A
  unfolding all
  below_each A p = record { below = (greatest_meet m l v members As).below A p }

  -- in the layer the double negation of the meet lies below each
  raised_below_each : (A : Formula) → Memᴰ A As → raise l all ⊑ worth (layer m) (layer_lawful l) (map (doubled m) v) (doubled_members l v members) A
  unfolding all raise twice close arrow bottom
  raised_below_each A p =
      record { below = subst (Below m (doubled m (meet_all m v As))) (sym (layer_value l v members A)) (twice_mono l (below_each A p)).below }

pub sound : (mode : Mode) (h : History) → Written mode h → Sound mode h
unfolding all raise twice close arrow bottom
sound Constructive h w i y e m l v members =
    (line_holds Constructive l (λ p. absurd (apart p)) v members h w i y e (all l v members (in_force h y)) (below_each l v members (in_force h y))).below
sound Classical h w i y e m l v members =
    let given = all l v members (in_force h y) in
    let in_layer = line_holds Classical (layer_lawful l) (λ _. layer_boolean l) (map (doubled m) v) (doubled_members l v members) h w i y e (raise l given) (raised_below_each l v members (in_force h y)) in
    let back : twice l given ⊑ twice l (worth m l v members y.formula) =
    record { below = subst (Below m (doubled m given.at)) (layer_value l v members y.formula) in_layer.below } in
    (below_trans l (above_twice l given) back).below

pub constructive_sound : ConstructiveSound
constructive_sound = sound Constructive

pub classical_sound : ClassicalSound
classical_sound = sound Classical

pub classical_in_boolean : ClassicalInBoolean
unfolding all
classical_in_boolean h w i y e m l boolean v members =
    (line_holds Classical l (λ _. boolean) v members h w i y e (all l v members (in_force h y)) (below_each l v members (in_force h y))).below

pub classical_in_layers : ClassicalInLayers
classical_in_layers h w i y e m l = classical_in_boolean h w i y e (regular m) (regular_lawful m l) (regular_boolean m l)

pub conclusions_follow_lem : ConclusionsFollow
conclusions_follow_lem mode h A w c =
    subst (λ As. Entails mode As A) (append-nil (premises h)) (sound mode h w c.end (record { formula = A; inside = [] }) c.last)
