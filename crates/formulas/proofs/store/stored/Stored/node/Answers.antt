use Rattle.formulas.specs.declared.store.Store.{Store}
use Rattle.formulas.proofs.Stores.{made_of, stored_used}
use Rattle.formulas.proofs.store.stored.Stored.node.Goals as goal

pub returns : goal.returns
returns c = let s : Store = c.args.self.store.now in made_of s c.args.self.place _ (stored_used s _ c.args.self.held) c.index.ensures
