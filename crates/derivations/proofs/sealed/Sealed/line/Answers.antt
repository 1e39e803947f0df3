use Rattle.ledger.specs.Telling.{LineTold}
use Rattle.pages.proofs.Reading.{on_page, off_page}
use Rattle.derivations.proofs.Sounding.{line_entailed}
use Rattle.derivations.proofs.sealed.Sealed.line.Goals as goal

pub returns-clause-entails : goal.returns-clause-entails
returns-clause-entails c h g =
    let d = c.args.self.now in
    let on = c.first_lines.ensures in
    line_entailed d h c.args.number c.line.result g (off_page on (λ fs. LineTold fs h c.args.number c.line.result) (c.line.ensures h (on_page on d.fits g.recorded)))
