use Rattle.std.proofs.Common.{◌≤◌, length, subst}
use Rattle.std.specs.Fmt.{decimal}
use Rattle.formulas.specs.Stores.{contents}
use Rattle.printing.proofs.Room.{checked_room}
use Rattle.printing.proofs.checked.write_checked.Goals as goal

pub returns-clause-room : goal.returns-clause-room
returns-clause-room c =
    let number : length (decimal c.args.checked.now.lines) ≤ 20 = subst (λ text. length text ≤ 20) c.format.ensures.text c.format.ensures.fits in
    checked_room (contents c.args.store.now) c.args.store.now.fitting c.args.checked.now number
