use Rattle.std.proofs.Common.{◌≡◌, ℕ, ◌+◌, ◌<◌, List, length, get_or, sym, refl, ap, ◌∙◌, subst, arith}
use Rattle.grammar.specs.Symbols.{symbol}
use Rattle.grammar.specs.Formula.{Formula}
use Rattle.grammar.specs.Formula.Formula.{falsum, joined}
use Rattle.grammar.specs.Contents.{Fitting}
use Rattle.formulas.specs.Stores.{contents}
use Rattle.grammar.specs.Reading.{Enters}
use Rattle.grammar.specs.Scanning.{Stands}
use Rattle.formulas.specs.declared.store.Store.{Store}
use Rattle.grammar.specs.declared.connective.Connective.{Connective}
use Rattle.grammar.specs.declared.connective.Connective.TheVariants.{Implies}
use Rattle.grammar.specs.declared.symbol.Symbol.TheVariants.{Sign}
use Rattle.grammar.proofs.Shapes.{AtNot, AtOpen, shape, at_letter, at_not, at_open, at_falsum}
use Rattle.formulas.proofs.Stores.{count_is_used, same_capacity}
use Rattle.grammar.proofs.Entries.{falsum_at, letter_enters, falsum_enters, not_fits, not_room, not_enterable, open_fits, open_room, first_enterable, second_enterable, joined_enters, joined_fitting, joined_low, joined_room}
use Rattle.formulas.proofs.store.Store.+enter.Goals as goal
use Rattle.formulas.proofs.store.Store.+enter.Goals.{In-Not, In-Open, After-enter-part, After-enter-first, After-enter-second}
use Rattle.formulas.proofs.store.Store.+enter.Goals.{at-enter-part-requires, at-overflow_cast-part, at-place_of-place-requires, at-returns-in-Not-clause-enters}
use Rattle.formulas.proofs.store.Store.+enter.Goals.{at-enter-first-requires, at-unreachable-requires, at-enter-second-requires, at-overflow_cast-first, at-overflow_cast-second, at-overflow_add-result-in-Open, at-place_of-place-requires-in-Open, at-returns-in-Sign-clause-enters}

sign_is : (j k : Connective) → Sign j ≡ Sign k → j ≡ k
sign_is j k e = cc

small : (st : Store) (p : ℕ) → p < length (contents st) → p < 4096
small st p h = omega (arith, count_is_used st, st.most)

pub returns-in-Letter-clause-enters : goal.returns-in-Letter-clause-enters
returns-in-Letter-clause-enters t c =
    let st : Store = c.args.self.now in
    λ f end d.
    let l = at_letter (shape d) (sym c.in-Letter.ensures) in
    (sym l.ends, subst (λ g. Enters (contents st) (contents st) g c.letter_place.result) (sym l.formula) (rw c.letter_place.ensures (letter_enters (contents st) st.base _ l.letter)))

pub returns-in_default-clause-enters : goal.returns-in_default-clause-enters
returns-in_default-clause-enters t c =
    let st : Store = c.args.self.now in
    let w = c.in_default in
    let y = c.symbol_at.ensures in
    λ f end d.
    let l = at_falsum (shape d) (λ e. w.not-Letter (y ∙ e)) (λ e. w.not-Not (y ∙ e)) (λ e. w.not-Open (y ∙ e)) in
    (sym l.ends, subst (λ g. Enters (contents st) (contents st) g 0) (sym l.formula) (falsum_enters (contents st) st.base))

-- a negation: its part, and what entering it does

negated : (t : ℕ) (c : In-Not t) → AtNot c.args.text.now c.args.at c.requires.end c.requires.formula
negated t c = at_not (shape c.requires.stands) (sym c.in-Not.ensures)

part_entered : (t : ℕ) (c : After-enter-part t) {end : ℕ} {f : Formula} (n : AtNot c.args.text.now c.args.at end f) →
    (c.enter-part.result.end ≡ end) × Enters (contents c.args.self.now) (contents c.enter-part.new.self) n.part c.enter-part.result.place
part_entered t c {end} n = c.enter-part.ensures.enters n.part end n.stands

pub enter-part-requires : goal.enter-part-requires
enter-part-requires t c = let n = negated t (at-enter-part-requires t c).In-Not in (omega (arith, c.decreases, n.inside), not_enterable c.requires n)

pub overflow_cast-part : goal.overflow_cast-part
overflow_cast-part t c =
    let d = (at-overflow_cast-part t c).After-enter-part in
    omega (arith, small c.enter-part.new.self c.enter-part.result.place (part_entered t d (negated t (at-overflow_cast-part t c).In-Not)).1.within)

pub place_of-place-requires : goal.place_of-place-requires
place_of-place-requires t c =
    let st : Store = c.enter-part.new.self in
    let n = negated t (at-place_of-place-requires t c).In-Not in
    let a = (part_entered t (at-place_of-place-requires t c).After-enter-part n).1 in
    let p : ℕ = c.enter-part.result.place in
    record {
      room = joined_room _ _ (contents st) (contents st) Implies n.part falsum p 0 p a refl (falsum_at (contents st) st.base) _ (omega (arith, same_capacity c.enter-part.ensures.stay, not_room c.requires n));
      below = joined_low _ _ (contents st) (contents st) Implies n.part falsum p 0 p a refl (falsum_at (contents st) st.base) (omega (arith, st.base.0));
      fitting = joined_fitting _ _ (contents st) (contents st) Implies n.part falsum p 0 p a refl (falsum_at (contents st) st.base) (not_fits c.requires n);
    }

pub returns-in-Not-clause-enters : goal.returns-in-Not-clause-enters
returns-in-Not-clause-enters t c =
    let st : Store = c.enter-part.new.self in
    let cs = contents c.place_of-place.new.self in
    let p : ℕ = c.enter-part.result.place in
    let r : ℕ = c.place_of-place.result in
    let e = c.place_of-place.ensures in
    λ f end d.
    let n = at_not (shape d) (sym c.in-Not.ensures) in
    let a = part_entered t (at-returns-in-Not-clause-enters t c).After-enter-part n in
    (a.0, subst (λ g. Enters (contents c.args.self.now) cs g r) (sym n.formula) (joined_enters _ _ (contents st) cs Implies n.part falsum p 0 r a.1 refl (falsum_at (contents st) st.base) e.held e.found e.within))

-- a joined formula: its parts, and what entering them does

opened : (t : ℕ) (c : In-Open t) → AtOpen c.args.text.now c.args.at c.requires.end c.requires.formula
opened t c = at_open (shape c.requires.stands) (sym c.in-Open.ensures)

first_entered : (t : ℕ) (c : After-enter-first t) {end : ℕ} {f : Formula} (o : AtOpen c.args.text.now c.args.at end f) →
    (c.enter-first.result.end ≡ o.mid) × Enters (contents c.args.self.now) (contents c.enter-first.new.self) o.first c.enter-first.result.place
first_entered t c o = c.enter-first.ensures.enters o.first o.mid o.one

second_entered : (t : ℕ) (c : After-enter-second t) {end : ℕ} {f : Formula} (o : AtOpen c.args.text.now c.args.at end f) → c.enter-first.result.end ≡ o.mid →
    (c.enter-second.result.end ≡ o.stop) × Enters (contents c.enter-first.new.self) (contents c.enter-second.new.self) o.second c.enter-second.result.place
second_entered t c o e =
    c.enter-second.ensures.enters o.second o.stop (subst (λ m. Stands c.args.text.now (m + 1) o.stop o.second) (sym e) o.two)

same_connective : {s : List ℕ} {at end : ℕ} {f : Formula} (o : AtOpen s at end f) {mid : ℕ} {k : Connective} → mid ≡ o.mid → symbol (get_or s mid 0) ≡ Sign k → o.connective ≡ k
same_connective {s} o e y = sign_is _ _ (sym o.signed ∙ ap (λ i. symbol (get_or s i 0)) (sym e) ∙ y)

pub enter-first-requires : goal.enter-first-requires
enter-first-requires t c = let o = opened t (at-enter-first-requires t c).In-Open in (omega (arith, c.decreases, o.inside), first_enterable c.requires o)

pub unreachable-requires : goal.unreachable-requires
unreachable-requires t c =
    let o = opened t (at-unreachable-requires t c).In-Open in
    let there = first_entered t (at-unreachable-requires t c).After-enter-first o in
    c.in_default-symbol_at.not-Sign o.connective (c.symbol_at-in-Open.ensures ∙ ap (λ i. symbol (get_or c.args.text.now i 0)) there.0 ∙ o.signed)

pub enter-second-requires : goal.enter-second-requires
enter-second-requires t c =
    let o = opened t (at-enter-second-requires t c).In-Open in
    let a = first_entered t (at-enter-second-requires t c).After-enter-first o in
    (omega (arith, c.decreases, a.0, o.mid_inside, o.one.long), second_enterable c.requires o _ a.0 _ a.1.held _ (same_capacity c.enter-first.ensures.stay))

pub overflow_cast-first : goal.overflow_cast-first
overflow_cast-first t c =
    let o = opened t (at-overflow_cast-first t c).In-Open in
    omega (arith, small c.enter-first.new.self c.enter-first.result.place (first_entered t (at-overflow_cast-first t c).After-enter-first o).1.within)

pub overflow_cast-second : goal.overflow_cast-second
overflow_cast-second t c =
    let o = opened t (at-overflow_cast-second t c).In-Open in
    let a = first_entered t (at-overflow_cast-second t c).After-enter-first o in
    let b = second_entered t (at-overflow_cast-second t c).After-enter-second o a.0 in
    omega (arith, small c.enter-second.new.self c.enter-second.result.place b.1.within)

pub overflow_add-result-in-Open : goal.overflow_add-result-in-Open
overflow_add-result-in-Open t c =
    let o = opened t (at-overflow_add-result-in-Open t c).In-Open in
    let a = first_entered t (at-overflow_add-result-in-Open t c).After-enter-first o in
    let b = second_entered t (at-overflow_add-result-in-Open t c).After-enter-second o a.0 in
    omega (arith, b.0, o.stop_inside)

pub place_of-place-requires-in-Open : goal.place_of-place-requires-in-Open
place_of-place-requires-in-Open t c =
    let st : Store = c.enter-second.new.self in
    let o = opened t (at-place_of-place-requires-in-Open t c).In-Open in
    let a = first_entered t (at-place_of-place-requires-in-Open t c).After-enter-first o in
    let b = second_entered t (at-place_of-place-requires-in-Open t c).After-enter-second o a.0 in
    let k = same_connective o a.0 (sym c.in-Sign.ensures) in
    let p : ℕ = c.enter-first.result.place in
    let q : ℕ = c.enter-second.result.place in
    record {
      room = joined_room _ _ (contents st) (contents st) c.in-Sign.connective _ _ p q p a.1 b.1.held b.1.found _ (omega (arith, same_capacity c.enter-second.ensures.stay, same_capacity c.enter-first.ensures.stay, open_room c.requires o));
      below = joined_low _ _ (contents st) (contents st) c.in-Sign.connective _ _ p q p a.1 b.1.held b.1.found b.1.within;
      fitting = joined_fitting _ _ (contents st) (contents st) c.in-Sign.connective _ _ p q p a.1 b.1.held b.1.found (subst (λ j. Fitting (joined j o.first o.second)) k (open_fits c.requires o));
    }

pub returns-in-Sign-clause-enters : goal.returns-in-Sign-clause-enters
returns-in-Sign-clause-enters t c =
    let st : Store = c.enter-second.new.self in
    let cs = contents c.place_of-place-in-Open.new.self in
    let p : ℕ = c.enter-first.result.place in
    let q : ℕ = c.enter-second.result.place in
    let r : ℕ = c.place_of-place-in-Open.result in
    let e = c.place_of-place-in-Open.ensures in
    λ f end d.
    let o = at_open (shape d) (sym c.in-Open.ensures) in
    let a = first_entered t (at-returns-in-Sign-clause-enters t c).After-enter-first o in
    let b = second_entered t (at-returns-in-Sign-clause-enters t c).After-enter-second o a.0 in
    let k = same_connective o a.0 (sym c.in-Sign.ensures) in
    (omega (arith, b.0, o.ends), subst (λ g. Enters (contents c.args.self.now) cs g r) (ap (λ j. joined j o.first o.second) (sym k) ∙ sym o.formula) (joined_enters _ _ (contents st) cs _ _ _ p q r a.1 b.1.held b.1.found e.held e.found e.within))
