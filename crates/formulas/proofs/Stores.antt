-- What a store's ghost fields say of its records.
use Rattle.std.proofs.Common.{◌≡◌, ℕ, ◌<◌, ◌≤◌, min, length, get_or, take, sym, ap, ◌∙◌, arith}
use Rattle.std.proofs.lemmas.List.{get_or_read}
use Rattle.grammar.specs.Records.{meaning, parts_below, MadeOf}
use Rattle.grammar.specs.declared.node.Node.{Node}
use Rattle.grammar.specs.declared.node.Node.TheVariants.{Falsum}
use Rattle.grammar.proofs.Records.{Good, count_used, used_meaning, used_founded}
use Rattle.formulas.specs.Stores.{records, contents, count, capacity, OthersStay}
use Rattle.formulas.specs.declared.store.Store.{Store}

pub within : (s : Store) → s.used ≤ length (records s)
within s = omega (arith, s.within, s.nodes.ok.0)

pub good : (s : Store) → Good (take s.used (records s))
good s = record { founded = s.founded; base = s.base; once = s.once; fitting = s.fitting }

pub count_is_used : (s : Store) → count s ≡ s.used
count_is_used s = count_used (records s) s.used (within s)

pub stored_used : (s : Store) (p : ℕ) → p < count s → p < s.used
stored_used s p h = omega (arith, count_is_used s)

-- the record that is read at a place is how the formula there is made
pub made_of : (s : Store) (p : ℕ) (n : Node) → p < s.used → n ≡ get_or (records s) p n → MadeOf (contents s) p n
made_of s p n h e =
    let here : n ≡ get_or (records s) p Falsum = get_or_read (records s) p n (omega (arith, within s)) e Falsum in
    record {
      stored = omega (arith, count_is_used s);
      formula = used_meaning (records s) s.used (within s) (good s) p h ∙ ap (meaning (contents s)) (sym here);
      below = ap (parts_below p) here ∙ used_founded (records s) s.used (within s) (good s) p h;
    }

pub same_capacity : {a b : Store} → OthersStay a b → capacity b ≡ capacity a
same_capacity p = ap (λ n. min n 4096) p.long
