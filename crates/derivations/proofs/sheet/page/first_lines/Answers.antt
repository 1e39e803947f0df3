use Rattle.std.proofs.Common.{arith}
use mathlib.Core.Logic.{∥∥₁_map}
use Rattle.std.proofs.lemmas.List.{length-take-le}
use Rattle.ledger.proofs.Recording.{recorded_whole}
use Rattle.derivations.proofs.sheet.page.first_lines.Goals as goal

pub invariant_of-result : goal.invariant_of-result
invariant_of-result c = record {
  small = omega (arith, length-take-le c.args.count c.args.lines.now c.requires.fits);
  recorded = ∥∥₁_map c.requires.recorded (λ r. (r.0, recorded_whole c.requires.fits r.1));
}
