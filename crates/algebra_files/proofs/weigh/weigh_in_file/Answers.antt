use Rattle.std.proofs.Common.{◌≡◌, Some, None, map, refl, sym, ap, ◌∙◌}
use Rattle.std.specs.Option.{option_map}
use Rattle.entries.specs.Entries.{stored}
use Rattle.formulas.specs.Stores.{contents}
use Rattle.algebra_files.specs.Cutting.{file_of}
use Rattle.algebra_files.specs.Reading.{file_in}
use Rattle.algebra_files.proofs.Answering.{read, unread}
use Rattle.algebra_files.proofs.weigh.weigh_in_file.Goals as goal

pub returns-in-Some : goal.returns-in-Some
returns-in-Some c =
    let xs = map stored c.args.entries.now in
    let f = file_of c.in-Some.file in
    let is : Some f ≡ file_in xs = sym (ap (option_map file_of) c.in-Some.is) ∙ c.read_file.ensures in
    read c.args.first xs (contents c.args.store.now) c.args.sequent.now c.args.values.now c.weigh_with.new.buffer c.weigh_with.result f is c.weigh_with.ensures

pub returns-in-None : goal.returns-in-None
returns-in-None c =
    let xs = map stored c.args.entries.now in
    let is : None ≡ file_in xs = sym (ap (option_map file_of) c.in-None.is) ∙ c.read_file.ensures in
    unread c.args.first xs (contents c.args.store.now) c.args.sequent.now c.args.values.now c.args.values.now c.first_out_of_turn.result c.saturating_add-number.result c.unwrap_or-place.result is
    c.first_out_of_turn.ensures c.unwrap_or-place.ensures c.saturating_add-number.ensures refl
