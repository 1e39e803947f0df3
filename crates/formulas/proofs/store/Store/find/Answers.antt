use borrow.Author.Tests.{tests}
use Rattle.std.proofs.Common.{rules, ◌≡◌, ℕ, ◌<◌, ◌≤◌, Option, Some, None, MatchOption, List, length, get_or, take, sym, ◌∙◌, arith}
use Rattle.std.proofs.lemmas.Iterator.{IsFirst-from_position, YieldsList-from_slice}
use Rattle.std.specs.List.{AllWithin, HoldsAt}
use Rattle.grammar.specs.declared.node.Node.{Node}
use Rattle.grammar.specs.declared.node.Node.TheVariants.{Falsum}
use Rattle.grammar.proofs.Records.{length_used, record_used}
use Rattle.formulas.specs.Stores.{records}
use Rattle.formulas.specs.declared.store.Store.{Store}
use Rattle.formulas.proofs.Stores.{within}
use Rattle.formulas.proofs.store.Store.find.Goals as goal

-- where a record stands among the first ones, it stands among all
located : (all : List Node) (used : ℕ) (n : Node) (r : Option ℕ) → used ≤ length all →
    MatchOption r (AllWithin (λ m. m ≡ n → ⊥) (take used all) 0 (length (take used all))) (λ i. (i < length (take used all)) × HoldsAt (λ m. m ≡ n) (take used all) i × AllWithin (λ m. m ≡ n → ⊥) (take used all) 0 i) →
    MatchOption r ((k : ℕ) → k < used → get_or all k Falsum ≡ n → ⊥) (λ i. (i < used) × (get_or all i Falsum ≡ n))
located all used n None h w = λ k l e. w k Falsum (omega arith) (omega (arith, length_used all used h)) (record_used all used h k l ∙ e)
located all used n (Some i) h w = let l : i < used = omega (arith, w.0, length_used all used h) in (l, sym (record_used all used h i l) ∙ w.1 Falsum)

pub returns : goal.returns
returns c =
    let s : Store = c.args.self.now in
    located (records s) s.used c.args.node _ (within s)
    (IsFirst-from_position _ _ _ (λ n. n ≡ c.args.node) (λ n. n ≡ c.args.node → ⊥) c.position.ensures.ran (YieldsList-from_slice (take s.used (records s)) cc) (λ x q k. search (rules, tests)) (λ x q k. search (rules, tests)))
