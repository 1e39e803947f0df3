use Rattle.std.proofs.Common.{◌≡◌, Err, arith}
use Rattle.std.proofs.lemmas.Grind.{common_steps}
use Rattle.formulas.specs.Stores.{capacity, contents}
use Rattle.answers.specs.declared.unanswered.Unanswered.TheVariants.{Faulty}
use Rattle.weighing_files.proofs.Putting.{not_read, not_derived, derived, confirmed}
use Rattle.weighing_files.proofs.weigh.weigh_input.Goals as goal

pub returns-in_err-count-clause-exact : goal.returns-in_err-count-clause-exact
returns-in_err-count-clause-exact c =
    let store = c.args.store.now in
    let why = c.in_err-count.field-0.0 in
    let refused : c.from_residual.result ≡ Err why = grind (arith, common_steps) in
    rw refused
    (not_read (capacity store) c.args.input.now (contents store) (contents c.read_input.new.store) c.args.entries.now c.read_input.new.entries store.once c.args.lines.now c.args.values.now why c.in_err-count.ensures.read)

pub returns-in_err-checked-clause-exact : goal.returns-in_err-checked-clause-exact
returns-in_err-checked-clause-exact c =
    let store = c.args.store.now in
    let fault = c.in_err-checked.field-0.0 in
    let refused : c.from_residual-in_err-checked.result ≡ Err (Faulty fault) = grind (arith, common_steps) in
    rw refused
    (not_derived (capacity store) c.args.input.now (contents store) (contents c.read_input.new.store) c.args.entries.now c.read_input.new.entries store.once c.in_ok-count.count c.in_ok-count.ensures.read c.split.result.0.now c.split.result.1.now
    c.args.lines.now c.derive.new.lines c.split.ensures.proof c.split.ensures.algebra c.args.values.now fault c.in_err-checked.ensures.exact)

pub returns-clause-exact : goal.returns-clause-exact
returns-clause-exact c =
    let store = c.args.store.now in
    derived (capacity store) c.args.input.now (contents store) (contents c.read_input.new.store) c.args.entries.now c.read_input.new.entries store.once c.in_ok-count.count c.in_ok-count.ensures.read c.split.result.0.now c.split.result.1.now
    c.args.lines.now c.derive.new.lines c.split.ensures.proof c.split.ensures.algebra c.args.values.now c.weigh_in_file.new.values c.in_ok-checked.checked c.in_ok-checked.ensures.exact c.weigh_in_file.result c.weigh_in_file.ensures

pub returns-clause-confirmed : goal.returns-clause-confirmed
returns-clause-confirmed c =
    let store = c.args.store.now in
    confirmed (capacity store) c.args.input.now (contents store) (contents c.read_input.new.store) c.args.entries.now c.read_input.new.entries store.once c.in_ok-count.count c.in_ok-count.ensures.read c.split.result.0.now c.split.result.1.now
    c.args.lines.now c.derive.new.lines c.split.ensures.proof c.split.ensures.algebra c.args.values.now c.weigh_in_file.new.values c.in_ok-checked.checked c.in_ok-checked.ensures.exact c.weigh_in_file.result c.weigh_in_file.ensures c.in_ok-checked.ensures.entails
