use Rattle.std.proofs.Common.{rules}
use Rattle.heyting.proofs.Values.{operation_in}
use Rattle.layers.proofs.product.Product.part_by_part.Goals as goal

pub code-requires-clause-first : goal.code-requires-clause-first
code-requires-clause-first g c = search (rules, operation_in (g.A.Algebra.means c.args.self.now.first) (g.A.Algebra.lawful c.args.self.now.first))

pub code-requires-clause-second : goal.code-requires-clause-second
code-requires-clause-second g c = search (rules, operation_in (g.B.Algebra.means c.args.self.now.second) (g.B.Algebra.lawful c.args.self.now.second))
