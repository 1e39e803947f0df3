use Rattle.std.proofs.Common.{length, ap, ◌∙◌}
use Rattle.std.specs.Option.{unwrap_or}
use Rattle.scripts.specs.Proofs.{acts}
use Rattle.scripts.proofs.Fronts.{first_counted}
use Rattle.scripts.proofs.derive.count_front.Goals as goal

pub returns-clause-place : goal.returns-clause-place
returns-clause-place c = c.unwrap_or.ensures ∙ ap (λ o. unwrap_or o (length c.args.entries.now)) c.first_act.ensures ∙ first_counted acts c.args.entries.now
