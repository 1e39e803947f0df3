use Rattle.soundness.proofs.Sound.{constructive_sound, classical_sound, classical_in_boolean, classical_in_layers}
use Rattle.soundness.proofs.theorems.derivations_are_sound.Goals as goal

pub returns : goal.returns
returns c = record { constructive = constructive_sound; classical = classical_sound; in_boolean = classical_in_boolean; in_layers = classical_in_layers }
