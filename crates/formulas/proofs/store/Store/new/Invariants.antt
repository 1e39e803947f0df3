use Rattle.std.proofs.Common.{◌≡◌, ◌-◌, take, drop, vec_items, vec_len}
use Rattle.grammar.proofs.Basics.{basics}
use Rattle.formulas.proofs.store.Store.new.Given as goal

abbrev pub invariant-loop-letter : goal.invariant-loop-letter
invariant-loop-letter l =
    (take (l.letter - 96) (vec_items l.nodes) ≡ take (l.letter - 96) basics)
    × (drop 27 (vec_items l.nodes) ≡ drop 27 (vec_items l.initial.nodes))
    × (vec_len l.nodes ≡ vec_len l.initial.nodes)
