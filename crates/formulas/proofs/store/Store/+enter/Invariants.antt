use Rattle.std.proofs.Common.{◌-◌, length}
use Rattle.formulas.proofs.store.Store.+enter.Given as goal

abbrev pub decreases-enter : goal.decreases-enter
decreases-enter l = length l.text.now - l.at
