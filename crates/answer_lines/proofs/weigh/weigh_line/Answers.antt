use Rattle.std.proofs.Common.{◌≤◌, length, arith}
use Rattle.formulas.specs.Stores.{contents}
use Rattle.answer_lines.proofs.Always.{weighs_enough, verdict_always, held}
use Rattle.answer_lines.proofs.Telling.{verdict_told}
use Rattle.answer_lines.proofs.weigh.weigh_line.Goals as goal

pub print_verdict-requires : goal.print_verdict-requires
print_verdict-requires c = verdict_told c.weigh_input-answer.result c.weigh_input-answer.ensures.exact.stored

pub returns-clause-always : goal.returns-clause-always
returns-clause-always c entries values buffer =
    let after = c.weigh_input-answer.new.store in
    let room : length (contents after) ≤ length c.args.values.now = omega (arith, values, held c.args.store.now after c.weigh_input-answer.ensures.stay) in
    verdict_always c.args.buffer.now c.print_verdict.new.buffer c.print_verdict.result (c.print_verdict.ensures.room buffer) c.weigh_input-answer.result
    (weighs_enough c.weigh_input-answer.ensures.exact.weighs entries room) c.print_verdict.ensures.printed
