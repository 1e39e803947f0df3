use Rattle.std.proofs.Common.{◌+◌, ◌++◌, ◌∷◌, map, length, get_or, Ok, ap, ◌∙◌, subst, arith}
use Rattle.grammar.specs.Writing.{text_at}
use Rattle.formulas.specs.Stores.{contents}
use Rattle.verdicts.specs.Weighing.{AllBelow}
use Rattle.answers.specs.Rows.{after_tabs}
use Rattle.printing.specs.Printing.{Printed}
use Rattle.printing.proofs.Fronts.{after_tabs_long, fits, written}
use Rattle.printing.proofs.Places.{others, first_of, all_below}
use Rattle.printing.proofs.ending.+write_formulas.Goals as goal

pub write_field-requires : goal.write_field-requires
write_field-requires t c =
    let fs = contents c.args.store.now in
    let behind = others c.args.places.now in
    let parts = c.split_at_mut-front.ensures in
    let whole = fits (AllBelow behind (length fs)) (after_tabs (map (text_at fs) behind)) c.args.buffer.now _ c.write_formulas.new.buffer (c.field_len-start.result) c.min.result c.in_ok-end.field-0 c.min.ensures parts.back (after_tabs_long _) c.in_ok-end.ensures in
    omega (arith, whole, parts.front_len)

pub returns : goal.returns
returns t c =
    let fs = contents c.args.store.now in
    let places = c.args.places.now in
    let behind = others places in
    let text = c.in_ok-field.ensures in
    let n = c.field_len-start.result in
    subst (λ l. Printed (AllBelow places (length fs)) l c.args.buffer.now (c.write_field.new.buffer ++ c.write_formulas.new.buffer) (Ok (n + c.in_ok-end.field-0))) (ap after_tabs (first_of (text_at fs) 0 places (omega arith)))
    (written (AllBelow behind (length fs)) (after_tabs (map (text_at fs) behind)) c.args.buffer.now _ c.write_formulas.new.buffer n c.min.result c.in_ok-end.field-0 c.min.ensures c.split_at_mut-front.ensures.back (after_tabs_long _) c.in_ok-end.ensures
    (AllBelow places (length fs)) (9 ∷ text_at fs (get_or places 0 0)) c.write_field.new.buffer (all_below places (length fs) text.0) (omega (arith, c.field_len-start.ensures, ap length text.1)) (c.write_field.ensures ∙ ap (λ l. 9 ∷ l) text.1))
