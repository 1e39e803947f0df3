use Rattle.std.proofs.Common.{◌+◌, ◌++◌, map, Ok, ap, subst, arith}
use Rattle.answers.specs.Rows.{after_tabs}
use Rattle.printing.specs.Endings.{last_fields, IsStored}
use Rattle.printing.specs.Printing.{Printed}
use Rattle.printing.proofs.Fronts.{after_tabs_long, fits, written}
use Rattle.printing.proofs.Places.{others, first_of}
use Rattle.printing.proofs.row.+write_fields.Goals as goal

pub write_field-requires : goal.write_field-requires
write_field-requires t c =
    let behind = after_tabs (map (λ f. f.now) (others c.args.fields.now) ++ last_fields c.args.ending) in
    let parts = c.split_at_mut-front.ensures in
    let whole = fits (IsStored c.args.ending) behind c.args.buffer.now _ c.write_fields.new.buffer c.field_len-start.result c.min.result c.in_ok-end.field-0 c.min.ensures parts.back (after_tabs_long _) c.in_ok-end.ensures in
    omega (arith, whole, parts.front_len)

pub returns : goal.returns
returns t c =
    let fields = c.args.fields.now in
    let last = last_fields c.args.ending in
    let n = c.field_len-start.result in
    subst (λ l. Printed (IsStored c.args.ending) l c.args.buffer.now (c.write_field.new.buffer ++ c.write_fields.new.buffer) (Ok (n + c.in_ok-end.field-0))) (ap (λ l. after_tabs (l ++ last)) (first_of (λ f. f.now) _ fields (omega arith)))
    (written (IsStored c.args.ending) (after_tabs (map (λ f. f.now) (others fields) ++ last)) c.args.buffer.now _ c.write_fields.new.buffer n c.min.result c.in_ok-end.field-0 c.min.ensures c.split_at_mut-front.ensures.back (after_tabs_long _) c.in_ok-end.ensures
    (IsStored c.args.ending) _ c.write_field.new.buffer (λ s. s) (omega (arith, c.field_len-start.ensures)) c.write_field.ensures)
