use Rattle.std.proofs.Common.{length, ap, ◌∙◌}
use Rattle.std.specs.Option.{unwrap_or}
use Rattle.scripts.proofs.Fronts.{first_counted}
use Rattle.weighing_files.specs.Weighing.{separates}
use Rattle.weighing_files.proofs.parts.count_proof.Goals as goal

pub returns-clause-place : goal.returns-clause-place
returns-clause-place c = c.unwrap_or.ensures ∙ ap (λ o. unwrap_or o (length c.args.entries.now)) c.separator.ensures ∙ first_counted separates c.args.entries.now
