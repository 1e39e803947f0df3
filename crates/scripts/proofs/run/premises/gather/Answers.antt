use Rattle.std.proofs.Common.{◌≡◌, ◌+◌, map, get_or, Ok, Err, subst, arith}
use Rattle.std.proofs.lemmas.Grind.{common_steps}
use Rattle.std.proofs.lemmas.List.{length-map}
use Rattle.derivations.specs.Gathered.{Gathered}
use Rattle.entries.specs.Entries.{stored}
use Rattle.scripts.specs.Runs.{gathering_calls, RanOne}
use Rattle.scripts.proofs.Running.{leave_on, no_entry, one_more, stopped_by, all_run, at_hand, same_premise_calls}
use Rattle.scripts.proofs.run.premises.gather.Goals as goal

pub returns-in_err-gather_one-clause-ran : goal.returns-in_err-gather_one-clause-ran
returns-in_err-gather_one-clause-ran c h g =
    let l = c.loop-place in
    let before = l.invariant.so_far h g in
    let fault = c.in_err-gather_one.field-0.0 in
    let x = stored (get_or c.args.entries.now l.place no_entry) in
    let refused : c.from_residual.result ≡ Err fault = grind (arith, common_steps) in
    let ran = subst (λ st. RanOne st (Gathered c.gather_one.new.gathering) before.0 (c.args.first + l.place) x (Err fault)) (same_premise_calls l.invariant.leaves) (c.in_err-gather_one.ensures.ran before.0 before.2) in
    rw refused (stopped_by (gathering_calls c.args.gathering.now) c.args.first (map stored c.args.entries.now) (Gathered c.gather_one.new.gathering) h before.0 l.place x fault (at_hand c.args.entries.now l.place no_entry (omega arith)) before.1 ran)

pub returns-in_err-gather_one-clause-leaves : goal.returns-in_err-gather_one-clause-leaves
returns-in_err-gather_one-clause-leaves c = leave_on c.loop-place.invariant.leaves c.gather_one.ensures.leaves

pub loop-place-preserved : goal.loop-place-preserved
loop-place-preserved c =
    let l = c.loop-place in
    let x = stored (get_or c.args.entries.now l.place no_entry) in
    record {
      leaves = leave_on l.invariant.leaves c.gather_one.ensures.leaves;
      so_far = λ h g.
          let before = l.invariant.so_far h g in
          let ran = subst (λ st. RanOne st (Gathered c.gather_one.new.gathering) before.0 (c.args.first + l.place) x (Ok tt)) (same_premise_calls l.invariant.leaves) (c.in_ok-gather_one.ensures.ran before.0 before.2) in
          (_, one_more (gathering_calls c.args.gathering.now) c.args.first (map stored c.args.entries.now) h before.0 l.place x (at_hand c.args.entries.now l.place no_entry (omega arith)) before.1 ran.0, ran.1);
    }

pub returns-clause-ran : goal.returns-clause-ran
returns-clause-ran c h g =
    let l = c.loop-place in
    let before = l.invariant.so_far h g in
    (before.0, all_run (gathering_calls c.args.gathering.now) c.args.first (map stored c.args.entries.now) h before.0 l.place (omega (arith, length-map c.args.entries.now stored)) before.1, before.2)
