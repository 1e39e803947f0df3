use Rattle.answer_lines.proofs.Always.{checks_enough, checked_always}
use Rattle.formulas.specs.Stores.{contents}
use Rattle.answer_lines.proofs.Telling.{checked_told}
use Rattle.answer_lines.proofs.check.check_line.Goals as goal

pub print_checked-requires : goal.print_checked-requires
print_checked-requires c = checked_told c.check-answer.ensures.exact.checks

pub returns-clause-always : goal.returns-clause-always
returns-clause-always c entries buffer =
    checked_always c.args.buffer.now c.print_checked.new.buffer c.print_checked.result (c.print_checked.ensures.room buffer) (contents c.check-answer.new.store) c.check-answer.result
    (checks_enough c.check-answer.ensures.exact.checks entries) c.print_checked.ensures.printed
