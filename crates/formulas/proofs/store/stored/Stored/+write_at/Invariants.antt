use Rattle.formulas.proofs.store.stored.Stored.+write_at.Given as goal

abbrev pub decreases-write_at : goal.decreases-write_at
decreases-write_at l = l.self.place
