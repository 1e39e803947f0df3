use Rattle.std.proofs.Common.{subst₂}
use Rattle.frames.specs.Frames.{frame_means}
use Rattle.frames.specs.declared.frame.Frame.{Frame}
use Rattle.formulas.specs.Stores.{contents}
use Rattle.heyting.specs.Evaluating.{Evaluated}
use Rattle.heyting.specs.Layers.{product}
use Rattle.degrees.specs.Chains.{chain}
use Rattle.degrees.specs.declared.chain.Chain.{Chain}
use Rattle.degrees.proofs.graded.evaluate_graded.Goals as goal

pub returns : goal.returns
returns c =
    let made = c.in_ok-both.ensures in
    record {
      evaluated = λ _.
          subst₂ (λ (x : Chain) (y : Frame). Evaluated (product (chain x.degrees) (frame_means y)) (contents c.args.store.now) c.args.valuation.now.letters c.args.values.now c.evaluate.new.values c.evaluate.result)
          made.0 made.1 c.evaluate.ensures;
      too_large = λ no. absurd (no made.2);
    }
