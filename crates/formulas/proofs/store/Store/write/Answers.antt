use Rattle.std.proofs.Common.{◌≡◌, ◌<◌, take, sym, ap, ◌∙◌, subst, arith}
use Rattle.std.proofs.lemmas.List.{take_at}
use Rattle.grammar.specs.Contents.{formula_at}
use Rattle.grammar.specs.Writing.{text_at, ReadsBack}
use Rattle.grammar.proofs.Readings.{reads_back}
use Rattle.formulas.specs.Spelled.{text_of}
use Rattle.formulas.specs.Stores.{contents, count}
use Rattle.formulas.specs.declared.store.Store.{Store}
use Rattle.formulas.proofs.store.Store.write.Goals as goal

pub returns-clause-back : goal.returns-clause-back
returns-clause-back c =
    let s : Store = c.args.self.now in
    let f = c.in_ok-formula.formula in
    let here = c.in_ok-formula.ensures in
    let w = c.write_at.ensures in
    let front : take c.write_at.result c.write_at.new.buffer ≡ text_of f = ap (take c.write_at.result) w.wrote ∙ take_at (text_of f) _ _ (omega (arith, w.ends)) in
    let there : text_of f ≡ text_at (contents s) c.args.place = λ t. text_at (contents (here.0 t)) (here.1 t) in
    let held = subst (λ p. p < count s) here.1 (subst (λ st. f.place < count st) here.0 f.held) in
    let g = formula_at (contents s) c.args.place in
    subst (ReadsBack g) (sym (front ∙ there)) (reads_back g (s.fitting c.args.place held))
