use Rattle.std.proofs.Common.{◌≡◌, map, Some, sym, ap, ◌∙◌}
use Rattle.entries.specs.Entries.{stored}
use Rattle.algebra_files.specs.Reading.{pairs_in, base_in, after_base}
use Rattle.algebra_files.proofs.Runs.{Cut, cut, front_pairs, pairs_short}
use Rattle.algebra_files.proofs.read.Entries.base.Goals as goal
use Rattle.algebra_files.proofs.read.Entries.base.Goals.{After-split_at}

at_cut : (c : After-split_at) → Cut c.next_worlds.new.self.rest.now c.pair_count.result
at_cut c = rw (c.pair_count.ensures, front_pairs c.next_worlds.new.self.rest.now) (cut c.next_worlds.new.self.rest.now)

pub split_at-requires : goal.split_at-requires
split_at-requires c = rw (c.pair_count.ensures, front_pairs c.next_worlds.new.self.rest.now) (pairs_short c.next_worlds.new.self.rest.now)

pub invariant_of-result : goal.invariant_of-result
invariant_of-result c = record { only = rw c.split_at.ensures.front (at_cut (goal.at.invariant_of-result c).After-split_at).only }

pub returns-clause-base : goal.returns-clause-base
returns-clause-base c =
    let here = ap (λ es. pairs_in (map stored es)) c.split_at.ensures.front ∙ (at_cut (goal.at.returns-clause-base c).After-split_at).pairs in
    let base : Some (record { worlds = c.in_ok-worlds.worlds; pairs = pairs_in (map stored c.next_worlds.new.self.rest.now) }) ≡ base_in (map stored c.args.self.now.rest.now) = ap base_in (sym c.in_ok-worlds.ensures) in
    ap (λ ps. Some (record { worlds = c.in_ok-worlds.worlds; pairs = ps })) here ∙ base

pub returns-clause-rest : goal.returns-clause-rest
returns-clause-rest c =
    ap (map stored) c.split_at.ensures.back ∙ ((at_cut (goal.at.returns-clause-rest c).After-split_at).rest ∙ ap after_base (sym c.in_ok-worlds.ensures))
