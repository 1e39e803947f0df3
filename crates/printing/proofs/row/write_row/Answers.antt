use Rattle.std.proofs.Common.{◌++◌, map, length, refl, arith}
use Rattle.answers.specs.Rows.{after_tabs}
use Rattle.printing.specs.Endings.{last_fields, IsStored}
use Rattle.printing.proofs.Fronts.{after_tabs_long, fits, written}
use Rattle.printing.proofs.row.write_row.Goals as goal

pub copy_from_slice-requires : goal.copy_from_slice-requires
copy_from_slice-requires c =
    let behind = after_tabs (map (λ f. f.now) c.args.others.now ++ last_fields c.args.ending) in
    let parts = c.split_at_mut-front.ensures in
    let whole = fits (IsStored c.args.ending) behind c.args.buffer.now _ c.write_fields.new.buffer (length c.args.first.now) c.min.result c.in_ok-end.field-0 c.min.ensures parts.back (after_tabs_long _) c.in_ok-end.ensures in
    omega (arith, whole, parts.front_len)

pub returns : goal.returns
returns c =
    let behind = after_tabs (map (λ f. f.now) c.args.others.now ++ last_fields c.args.ending) in
    written (IsStored c.args.ending) behind c.args.buffer.now _ c.write_fields.new.buffer (length c.args.first.now) c.min.result c.in_ok-end.field-0 c.min.ensures c.split_at_mut-front.ensures.back (after_tabs_long _) c.in_ok-end.ensures
    (IsStored c.args.ending) c.args.first.now c.copy_from_slice.new.self (λ s. s) refl c.copy_from_slice.ensures.after
