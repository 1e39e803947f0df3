use Rattle.std.proofs.Common.{◌≡◌, ◌<◌, ◌≤◌, length, Err, arith}
use Rattle.std.proofs.lemmas.Grind.{common_steps}
use Rattle.formulas.specs.Stores.{capacity, contents}
use Rattle.answers.specs.declared.unanswered.Unanswered.TheVariants.{Faulty}
use Rattle.records.specs.Limits.{most_input}
use Rattle.records.specs.Pieces.{records}
use Rattle.readings.proofs.Inputs.{said, faulty, too_long}
use Rattle.readings.proofs.read.read_input.Goals as goal

pub returns-then-input-gt-MOST_INPUT-clause-read : goal.returns-then-input-gt-MOST_INPUT-clause-read
returns-then-input-gt-MOST_INPUT-clause-read c =
    let long : most_input < length c.args.input.now = grind (arith, common_steps) in
    too_long (capacity c.args.store.now) c.args.format c.args.input.now (contents c.args.store.now) c.args.entries.now c.args.store.now.once long

pub returns-in_err-read_records-clause-read : goal.returns-in_err-read_records-clause-read
returns-in_err-read_records-clause-read c =
    let fault = c.in_err-read_records.field-0.0 in
    let refused : c.from_residual.result ≡ Err (Faulty fault) = grind (arith, common_steps) in
    let short : length c.args.input.now ≤ most_input = grind (arith, common_steps) in
    let room : length (records c.args.input.now) ≤ length c.args.entries.now = grind (arith, common_steps) in
    rw refused
    (faulty (capacity c.args.store.now) c.args.format c.args.input.now (contents c.args.store.now) (contents c.read_records.new.store) c.args.entries.now c.read_records.new.entries c.args.store.now.once fault short room
    c.in_err-read_records.ensures.read)

pub returns-clause-read : goal.returns-clause-read
returns-clause-read c =
    let short : length c.args.input.now ≤ most_input = grind (arith, common_steps) in
    let room : length (records c.args.input.now) ≤ length c.args.entries.now = grind (arith, common_steps) in
    said (capacity c.args.store.now) c.args.format c.args.input.now (contents c.args.store.now) (contents c.read_records.new.store) c.args.entries.now c.read_records.new.entries
    c.args.store.now.once c.in_ok-read_records.field-0 short room c.in_ok-read_records.ensures.read
