use Rattle.std.proofs.Common.{length, arith}
use Rattle.grammar.proofs.FirstPlaces.{stands_whole}
use Rattle.grammar.proofs.Measures.{fits, signs_joins}
use Rattle.formulas.specs.declared.store.Store.{Store}
use Rattle.formulas.proofs.Stores.{within, count_is_used}
use Rattle.formulas.proofs.store.Store.read.Goals as goal

pub enter-requires : goal.enter-requires
enter-requires c =
    let s : Store = c.args.self.now in
    let w = c.in_ok-measured.ensures in
    let r = w.readable in
    let text = c.args.text.now in
    record {
      formula = w.formula;
      end = length text;
      stands = stands_whole text w.formula r.text;
      fitting = fits text w.formula r.text r.short r.shallow;
      room = omega (arith, w.signed, signs_joins r.text, c.capacity.ensures, count_is_used s, within s, s.most);
    }

pub returns : goal.returns
returns c =
    let s : Store = c.args.self.now in
    let w = c.in_ok-measured.ensures in
    let r = w.readable in
    let text = c.args.text.now in
    let e = c.enter.ensures in
    record {
      read = ((w.formula, r, (e.enters w.formula (length text) (stands_whole text w.formula r.text)).1), omega (arith, w.signed, c.capacity.ensures, count_is_used s, within s, s.most));
      stay = e.stay;
      refused = tt;
    }
