-- What stays when a derivation is opened, and when it is sealed.
use Rattle.std.specs.Prelude.{◌≡◌}
use Rattle.derivations.specs.Derived.{sheet_in}
use Rattle.derivations.specs.Gathered.{sheet_of}
use Rattle.derivations.specs.Finished.{sheet_by}
use Rattle.derivations.specs.declared.gathering.Gathering.{Gathering}
use Rattle.derivations.specs.declared.open.Open.{Open}
use Rattle.derivations.specs.declared.sealed.Sealed.{Sealed}

pub record Opens (g : Gathering) (o : Open) : Type 0 where
  pub sheet : sheet_in o ≡ sheet_of g
  pub premises : o.premises ≡ g.count

-- every part of the derivation is kept
pub record Seals (o : Open) (d : Sealed) : Type 0 where
  pub sheet : sheet_by d ≡ sheet_in o
  pub premises : d.premises ≡ o.premises
  pub boxes : d.boxes ≡ o.boxes
