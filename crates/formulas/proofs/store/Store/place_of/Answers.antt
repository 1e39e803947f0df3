use Rattle.std.proofs.Common.{◌≡◌, ◌<◌, true, ◌≢◌, length, subst, ⊎_elim, arith, length-set}
use Rattle.std.proofs.lemmas.List.{get_or-set_other}
use Rattle.grammar.specs.Records.{parts_below}
use Rattle.grammar.specs.declared.node.Node.TheVariants.{Falsum}
use Rattle.grammar.proofs.Records.{found_place, found_contents, more_contents, more_place, more_long, more_is_good}
use Rattle.formulas.specs.Stores.{records}
use Rattle.formulas.specs.declared.store.Store.{Store}
use Rattle.formulas.proofs.Stores.{within, good, count_is_used}
use Rattle.formulas.proofs.store.Store.place_of.Goals as goal

pub returns-in-Some-clause-held : goal.returns-in-Some-clause-held
returns-in-Some-clause-held c =
    let s : Store = c.args.self.now in
    let f = c.in-Some.ensures in
    found_contents (records s) s.used (within s) (good s) c.args.node c.in-Some.place f.0 f.1

pub returns-in-Some-clause-found : goal.returns-in-Some-clause-found
returns-in-Some-clause-found c =
    let s : Store = c.args.self.now in
    let f = c.in-Some.ensures in
    found_place (records s) s.used (within s) (good s) c.args.node c.in-Some.place f.0 f.1

pub invariant_of-self : goal.invariant_of-self
invariant_of-self c =
    let s : Store = c.args.self.now in
    let room : s.used < length (records s) = omega (arith, count_is_used s, c.requires.room) in
    let low : parts_below s.used c.args.node ≡ true = subst (λ l. parts_below l c.args.node ≡ true) (count_is_used s) c.requires.below in
    let g = more_is_good (records s) s.used (within s) (good s) c.args.node room low c.in_default.ensures c.requires.fitting in
    record {
      within = omega (arith, s.nodes.ok.0);
      most = omega (arith, count_is_used s, c.requires.room);
      founded = g.founded;
      base = g.base;
      once = g.once;
      fitting = g.fitting;
    }

pub returns : goal.returns
returns c =
    let s : Store = c.args.self.now in
    let n = c.args.node in
    let room : s.used < length (records s) = omega (arith, count_is_used s, c.requires.room) in
    let low : parts_below s.used n ≡ true = subst (λ l. parts_below l n ≡ true) (count_is_used s) c.requires.below in
    let long = more_long (records s) s.used (within s) (good s) n room low c.in_default.ensures in
    record {
      held = more_contents (records s) s.used (within s) (good s) n room low c.in_default.ensures;
      found = more_place (records s) s.used (within s) (good s) n room low c.in_default.ensures;
      within = omega (arith, long);
      stay = record {
        long = length-set (records s) s.used n;
        longer = omega (arith, long, count_is_used s);
        same = λ k h. let other : k ≢ s.used = ⊎_elim (λ l. omega (arith, count_is_used s)) (λ l. omega (arith, long)) h in get_or-set_other (records s) s.used k n Falsum other;
      };
    }
