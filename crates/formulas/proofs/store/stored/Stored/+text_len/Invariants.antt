use Rattle.formulas.proofs.store.stored.Stored.+text_len.Given as goal

abbrev pub decreases-text_len : goal.decreases-text_len
decreases-text_len l = l.self.place
