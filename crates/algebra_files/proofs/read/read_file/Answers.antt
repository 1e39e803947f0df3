use Rattle.std.proofs.Common.{◌∙◌, sym, ap, map}
use Rattle.entries.specs.Entries.{stored}
use Rattle.algebra_files.specs.Cutting.{base_of}
use Rattle.algebra_files.specs.Reading.{after_base, after_layer}
use Rattle.algebra_files.proofs.Runs.{values_only, values_not_only}
use Rattle.algebra_files.proofs.Written.{read_not}
use Rattle.algebra_files.proofs.read.read_file.Goals as goal

pub returns-then-not-all_values : goal.returns-then-not-all_values
returns-then-not-all_values c =
    let es = c.layer-layer.new.self.rest.now in
    read_not (map stored c.args.entries.now) (map stored es) (base_of c.in_ok-first.first) c.in_ok-first.ensures.base
    (c.layer-layer.ensures.rest ∙ ap after_layer (c.base-second.ensures.rest ∙ ap after_base c.in_ok-first.ensures.rest)) (values_not_only es (sym c.all_values.ensures ∙ c.if-not-all_values.true))

pub invariant_of-result : goal.invariant_of-result
invariant_of-result c =
    let es = c.layer-layer.new.self.rest.now in
    record { only = values_only es (sym c.all_values.ensures ∙ c.if-not-all_values.false) }
