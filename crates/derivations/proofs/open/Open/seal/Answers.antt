use Rattle.derivations.proofs.Sounding.{derives_sound, derives_entails}
use Rattle.derivations.proofs.open.Open.seal.Goals as goal

pub returns-clause-sound : goal.returns-clause-sound
returns-clause-sound c h x = derives_sound x

pub returns-clause-entails : goal.returns-clause-entails
returns-clause-entails c h A x k = derives_entails A x k
