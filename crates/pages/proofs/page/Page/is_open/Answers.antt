use Rattle.std.proofs.Common.{arith}
use Rattle.std.proofs.lemmas.Grind.{common_steps}
use Rattle.ledger.proofs.Recording.{open_exactly}
use Rattle.pages.proofs.page.Page.is_open.Goals as goal

pub returns : goal.returns
returns c h g = open_exactly g c.args.first c.is_none_or.result (rw (← c.record_of.ensures) (grind (arith, common_steps)))
