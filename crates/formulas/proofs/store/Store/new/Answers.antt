use Rattle.std.proofs.Common.{◌≡◌, ℕ, ◌+◌, ◌-◌, ◌<◌, ◌≤◌, List, min, length, take, set, sym, ap, ◌∙◌, subst, arith}
use Rattle.std.proofs.lemmas.List.{drop-set-lt}
use Rattle.grammar.specs.Records.{formulas}
use Rattle.grammar.specs.declared.node.Node.{Node}
use Rattle.grammar.specs.declared.node.Node.TheVariants.{Falsum, Letter}
use Rattle.grammar.proofs.Basics.{basics, one_more, basics_good, filled}
use Rattle.grammar.proofs.Records.{Good}
use Rattle.formulas.proofs.store.Store.new.Goals as goal

more : (ns : List Node) (i byte place next : ℕ) → 1 ≤ i → i < 27 → i < length ns → place ≡ i → byte ≡ 97 + (i - 1) → next ≡ i + 1 → take i ns ≡ take i basics → take next (set ns place (Letter byte)) ≡ take next basics
more ns i byte place next h l long at b n e = rw (at, b, n) (one_more ns i h l long e)

pub loop-letter-preserved : goal.loop-letter-preserved
loop-letter-preserved c =
    let all = c.loop-letter.nodes.items in
    let place = c.letter_place.ensures in (
      more all (c.loop-letter.letter - 96) _ _ _ (omega arith) (omega arith) (omega (arith, c.loop-letter.nodes.ok.0, c.loop-letter.invariant.2, c.len.ensures)) (omega arith) (omega arith) (omega arith) c.loop-letter.invariant.0,
      drop-set-lt 27 all c.letter_place.result _ (omega arith) ∙ c.loop-letter.invariant.1,
      c.loop-letter.invariant.2,
    )

pub invariant_of-result : goal.invariant_of-result
invariant_of-result c =
    let good = subst Good (sym (filled c.loop-letter.nodes.items (c.loop-letter.letter - 96) (omega arith) c.loop-letter.invariant.0)) basics_good in
    record {
      within = omega (arith, c.loop-letter.invariant.2, c.len.ensures);
      most = omega arith;
      founded = good.founded;
      base = good.base;
      once = good.once;
      fitting = good.fitting;
    }

pub returns : goal.returns
returns c =
    let given = c.args.records in
    let nodes = c.loop-letter.nodes in
    let long : length nodes.items ≡ length given.items = sym nodes.ok.0 ∙ c.loop-letter.invariant.2 ∙ given.ok.0 in
    record {
      enough = omega (arith, given.ok.0, c.len.ensures);
      holds = ap formulas (filled nodes.items (c.loop-letter.letter - 96) (omega arith) c.loop-letter.invariant.0);
      sized = ap (λ n. min n 4096) long;
      long = long;
      spare = c.loop-letter.invariant.1 ∙ drop-set-lt 27 given.items 0 Falsum (omega arith);
    }
