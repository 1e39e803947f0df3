use Rattle.entries.proofs.Places.{none_reached, one_more, out_here, all_reached, out_behind}
use Rattle.entries.proofs.order.first_out_of_turn.Goals as goal

pub loop-place-init : goal.loop-place-init
loop-place-init c = none_reached c.args.format c.args.turn c.args.entries.now

pub loop-place-preserved : goal.loop-place-preserved
loop-place-preserved c =
    one_more c.args.format c.args.turn c.args.entries.now c.loop-place.reached c.loop-place.place c.loop-place.invariant _ c.kind_said.result c.loop-place-test.true c.kind_said.ensures
    c.in-Some.next c.in-Some.ensures

pub returns-in_default : goal.returns-in_default
returns-in_default c =
    out_here c.args.format c.args.turn c.args.entries.now c.loop-place.reached c.loop-place.place c.loop-place.invariant _ c.kind_said.result c.loop-place-test.true c.kind_said.ensures
    c.in_default.ensures

pub returns-then-is_complete : goal.returns-then-is_complete
returns-then-is_complete c =
    all_reached c.args.format c.args.turn c.args.entries.now c.loop-place.reached c.loop-place.place c.loop-place.invariant c.loop-place-test.false c.loop-place.auto.place-end
    c.if-is_complete.ensures

pub returns-else-is_complete : goal.returns-else-is_complete
returns-else-is_complete c =
    out_behind c.args.format c.args.turn c.args.entries.now c.loop-place.reached c.loop-place.place c.loop-place.invariant c.loop-place-test.false c.loop-place.auto.place-end
    c.if-is_complete.ensures
