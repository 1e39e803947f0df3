use Rattle.entries.proofs.Naming.{rule_found}
use Rattle.entries.proofs.names.rule_named.Goals as goal

pub returns : goal.returns
returns c = rule_found c.args.name.now c.from_name.result c.from_name.ensures
