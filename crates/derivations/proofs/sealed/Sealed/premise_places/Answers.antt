use Rattle.std.proofs.Common.{take, sym, refl, arith}
use Rattle.std.proofs.lemmas.List.{length-take-le}
use Rattle.ledger.proofs.Informing.{no_places, all_places}
use Rattle.derivations.proofs.Writing.{premises_in}
use Rattle.derivations.proofs.sealed.Sealed.premise_places.Goals as goal

pub slice_bounds-premises-end : goal.slice_bounds-premises-end
slice_bounds-premises-end c = let d = c.args.self.now in sym (length-take-le d.premises d.lines.now (premises_in d))

pub loop-place-init : goal.loop-place-init
loop-place-init c = record { long = refl; filled = λ k lt. absurd (omega arith); spare = λ k le. no_places 0 k }

pub returns : goal.returns
returns c =
    let d = c.args.self.now in
    let premises = take d.premises d.lines.now in
    all_places premises c.loop-place.places c.loop-place.invariant.long (λ k lt. c.loop-place.invariant.filled k (omega arith)) (λ k le. c.loop-place.invariant.spare k (omega arith))
