use Rattle.std.proofs.Common.{◌≡◌, Ok, Err, arith}
use Rattle.std.proofs.lemmas.Grind.{common_steps}
use Rattle.formulas.specs.Stores.{capacity, contents}
use Rattle.answers.specs.declared.unanswered.Unanswered.TheVariants.{Faulty}
use Rattle.checking.proofs.Putting.{not_read, read}
use Rattle.checking.proofs.check.check.Goals as goal

pub returns-in_err-count-clause-exact : goal.returns-in_err-count-clause-exact
returns-in_err-count-clause-exact c =
    let store = c.args.store.now in
    let why = c.in_err-count.field-0.0 in
    let refused : c.from_residual.result ≡ Err why = grind (arith, common_steps) in
    rw refused
    (not_read (capacity store) c.args.input.now (contents store) (contents c.read_input.new.store) c.args.entries.now c.read_input.new.entries store.once c.args.lines.now why c.in_err-count.ensures.read)

pub returns-in_err-derive-clause-exact : goal.returns-in_err-derive-clause-exact
returns-in_err-derive-clause-exact c =
    let store = c.args.store.now in
    let fault = c.in_err-derive.field-0.0 in
    let refused : c.from_residual-in_err-derive.result ≡ Err (Faulty fault) = grind (arith, common_steps) in
    rw refused
    (read (capacity store) c.args.input.now (contents store) (contents c.read_input.new.store) c.args.entries.now c.read_input.new.entries store.once c.args.lines.now c.derive.new.lines c.in_ok-count.count (Err fault)
    c.in_ok-count.ensures.read c.in_err-derive.ensures.exact)

pub returns-clause-exact : goal.returns-clause-exact
returns-clause-exact c =
    let store = c.args.store.now in
    read (capacity store) c.args.input.now (contents store) (contents c.read_input.new.store) c.args.entries.now c.read_input.new.entries store.once c.args.lines.now c.derive.new.lines c.in_ok-count.count (Ok c.in_ok-derive.field-0)
    c.in_ok-count.ensures.read c.in_ok-derive.ensures.exact
