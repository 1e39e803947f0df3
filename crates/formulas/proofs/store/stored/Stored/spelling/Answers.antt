use denote.Enum.Bare.{sameb, same_true}
use Rattle.std.proofs.Common.{rules, ◌≡◌, ℕ, [], ◌∷◌, ◌++◌, sym, ap, ◌∙◌, ⊎_elim, arith}
use Rattle.std.proofs.lemmas.Bool.{false≢true}
use Rattle.grammar.specs.Writing.{text_at}
use Rattle.grammar.specs.contracts.connective.Connective.{the_type}
use Rattle.grammar.specs.declared.connective.Connective.TheVariants.{Implies}
use Rattle.grammar.proofs.Spelling.{parts_lower, spelled_negation, spelled_joined}
use Rattle.formulas.specs.Spelled.{text_of}
use Rattle.formulas.specs.Stores.{contents}
use Rattle.formulas.specs.declared.store.Store.{Store}
use Rattle.formulas.specs.declared.store.stored.Stored.{Stored}
use Rattle.formulas.proofs.store.stored.Stored.spelling.Goals as goal

-- the text of a formula of the same store
text_there : (s : Store) (part : Stored) (i : ℕ) → part.store.now ≡ s → part.place ≡ i → text_at (contents s) i ≡ text_of part
text_there s part i e p = sym (λ t. text_at (contents (e t)) (p t))

pub returns-then-second-eq-FALSUM : goal.returns-then-second-eq-FALSUM
returns-then-second-eq-FALSUM c =
    let s : Store = c.args.self.store.now in
    let m = c.in-Joined.ensures in
    let below = parts_lower (contents s) s.base s.once _ _ _ _ m in
    let part = c.below.ensures in (
      omega (arith, part.place),
      spelled_negation (contents s) s.base s.once _ _ _ _ m (same_true the_type (search rules) _ _ (sym c.eq.ensures ∙ c.if-eq.true)) c.if-second-eq-FALSUM.true
          ∙ ap (λ l. 126 ∷ l) (text_there s c.below.result _ part.store part.place),
    )

pub returns-else-eq : goal.returns-else-eq
returns-else-eq c =
    let s : Store = c.args.self.store.now in
    let j = c.in-Joined in
    let m = j.ensures in
    let below = parts_lower (contents s) s.base s.once _ _ _ _ m in
    let first = c.below-else-eq.ensures in
    let second = c.below-else-eq-2.ensures in
    let other : j.connective ≡ Implies → j.second ≡ 0 → ⊥ = λ is zero. ⊎_elim (λ p. p.1 zero) (λ f. false≢true (sym f ∙ c.eq.ensures ∙ ap (λ k. sameb the_type k Implies) is)) c.else-eq.either in
    let one = text_there s c.below-else-eq.result _ first.store first.place in
    let two = text_there s c.below-else-eq-2.result _ second.store second.place in (
      omega (arith, first.place),
      omega (arith, second.place),
      spelled_joined (contents s) s.base s.once _ _ _ _ m other ∙ (λ t. 40 ∷ one t ++ (sym c.from.ensures t ∷ two t ++ (41 ∷ []))),
    )
