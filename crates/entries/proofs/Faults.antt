-- A fault at field n stands on the first n fields alone.
use Rattle.std.proofs.Common.{◌≡◌, ℕ, zero, suc, ◌+◌, ◌<◌, ◌≤◌, List, [], ◌∷◌, ◌++◌, length, Some, None, Option, Err, Result, sym, ap, ◌∙◌, arith}
use Rattle.records.specs.Numbers.{number}
use Rattle.entries.proofs.Saying.{by_kind_named}
use Rattle.entries.proofs.Steps.{same_Err, onto_err}
use Rattle.entries.specs.Entries.{Said}
use Rattle.entries.specs.Forms.{onto, given, alone, numbers, citations, step_form, last_number, form, kind_named, entry_form}
use Rattle.entries.specs.Kinds.{rule_named, mode_named, letter}
use Rattle.entries.specs.Turns.{follow}
use Rattle.entries.specs.declared.kind.Kind.{Kind}
use Rattle.entries.specs.declared.kind.Kind.TheVariants as kinds
use Rattle.entries.specs.declared.turn.Format.{Format}
use Rattle.entries.specs.declared.turn.Turn.{Turn}

-- behind o fields, each fault is at a later one
abbrev Late : {A : Type 0} → ℕ → (List (List ℕ) → Result A ℕ) → Type 0
Late o p = (fs : List (List ℕ)) (n : ℕ) → p fs ≡ Err n → o < n

-- behind o fields, a fault at field n is there whatever comes behind field n
abbrev Local : {A : Type 0} → ℕ → (List (List ℕ) → Result A ℕ) → Type 0
Local o p = (front more rest : List (List ℕ)) (n : ℕ) → p (front ++ more) ≡ Err n → n ≤ o + length front → p (front ++ rest) ≡ Err n

given_late : {A B : Type 0} (o k : ℕ) (a : Option A) (q : A → List (List ℕ) → Result B ℕ) → o < k → ((x : A) → Late o (q x)) → Late o (λ fs. given k a (λ x. q x fs))
given_late o k None q later late fs n e = omega (arith, later, same_Err e)
given_late o k (Some x) q later late fs n e = late x fs n e

onto_late : {A B : Type 0} (o : ℕ) (f : A → B) (p : List (List ℕ) → Result A ℕ) → Late o p → Late o (λ fs. onto f (p fs))
onto_late o f p late fs n e = late fs n (onto_err f (p fs) e)

alone_late : {A : Type 0} (o k : ℕ) (x : A) → o < k → Late o (alone x k)
alone_late o k x later [] n e = absurd (cc)
alone_late o k x later (f ∷ fs) n e = omega (arith, later, same_Err e)

pub numbers_late : (o k most : ℕ) → o < k → Late o (numbers k most)
numbers_late o k most later [] n e = absurd (cc)
numbers_late o k zero later (f ∷ fs) n e = omega (arith, later, same_Err e)
numbers_late o k (suc most) later (f ∷ fs) n e = given_late o k (number f) (λ v gs. onto (λ vs. v ∷ vs) (numbers (k + 1) most gs)) later (λ v. onto_late o (λ vs. v ∷ vs) (numbers (k + 1) most) (numbers_late o (k + 1) most (omega (arith, later)))) fs n e

given_local : {A B : Type 0} (o k : ℕ) (a : Option A) (q : A → List (List ℕ) → Result B ℕ) → ((x : A) → Local o (q x)) → Local o (λ fs. given k a (λ x. q x fs))
given_local o k None q local front more rest n e here = e
given_local o k (Some x) q local front more rest n e here = local x front more rest n e here

onto_local : {A B : Type 0} (o : ℕ) (f : A → B) (p : List (List ℕ) → Result A ℕ) → Local o p → Local o (λ fs. onto f (p fs))
onto_local o f p local front more rest n e here = ap (onto f) (local front more rest n (onto_err f (p (front ++ more)) e) here)

-- one field further
next_local : {A : Type 0} (o : ℕ) (p : List (List ℕ) → Result A ℕ) → Late o p → ((f : List ℕ) → Local (o + 1) (λ fs. p (f ∷ fs))) → Local o p
next_local o p late local [] more rest n e here = absurd (omega (arith, late more n e, here))
next_local o p late local (f ∷ front) more rest n e here = local f front more rest n e (omega (arith, here))

alone_local : {A : Type 0} (o : ℕ) (x : A) → Local o (alone x (o + 1))
alone_local o x = next_local o (alone x (o + 1)) (alone_late o (o + 1) x (omega arith)) (λ f front more rest n e here. e)

numbers_local : (o most : ℕ) → Local o (numbers (o + 1) most)
numbers_local o zero = next_local o (numbers (o + 1) zero) (numbers_late o (o + 1) zero (omega arith)) (λ f front more rest n e here. e)
numbers_local o (suc most) =
    next_local o (numbers (o + 1) (suc most)) (numbers_late o (o + 1) (suc most) (omega arith))
    (λ f. given_local (o + 1) (o + 1) (number f) (λ v gs. onto (λ vs. v ∷ vs) (numbers (o + 1 + 1) most gs)) (λ v. onto_local (o + 1) (λ vs. v ∷ vs) (numbers (o + 1 + 1) most) (numbers_local (o + 1) most)))

pub last_late : {A B : Type 0} (o : ℕ) (join : A → ℕ → B) (a : A) → o < 3 → Late o (last_number join a)
last_late o join a later [] n e = omega (arith, later, same_Err e)
last_late o join a later (f ∷ fs) n e = given_late o 3 (number f) (λ v. alone (join a v) 4) later (λ v. alone_late o 4 (join a v) (omega (arith, later))) fs n e

last_local : {A B : Type 0} (join : A → ℕ → B) (a : A) → Local 2 (last_number join a)
last_local join a = next_local 2 (last_number join a) (last_late 2 join a (omega arith)) (λ f. given_local 3 3 (number f) (λ v. alone (join a v) 4) (λ v. alone_local 3 (join a v)))

pub citations_late : (o : ℕ) → o < 4 → Late o citations
citations_late o later [] n e = omega (arith, later, same_Err e)
citations_late o later (f ∷ fs) n e = numbers_late o 4 3 later (f ∷ fs) n e

citations_local : Local 3 citations
citations_local = next_local 3 citations (citations_late 3 (omega arith)) (λ f front more rest n e here. numbers_local 3 3 (f ∷ front) more rest n e (omega (arith, here)))

pub form_late : (k : Kind) → Late 1 (form k)
form_late kinds.Mode [] n e = omega (arith, same_Err e)
form_late kinds.Mode (f ∷ fs) n e = given_late 1 2 (mode_named f) (λ m. alone (Said.mode m) 3) (omega arith) (λ m. alone_late 1 3 (Said.mode m) (omega arith)) fs n e
form_late kinds.Premise [] n e = omega (arith, same_Err e)
form_late kinds.Premise (f ∷ fs) n e = onto_late 1 Said.premise (alone f 3) (alone_late 1 3 f (omega arith)) fs n e
form_late kinds.Assume [] n e = omega (arith, same_Err e)
form_late kinds.Assume (f ∷ fs) n e = onto_late 1 Said.assume (alone f 3) (alone_late 1 3 f (omega arith)) fs n e
form_late kinds.Step [] n e = omega (arith, same_Err e)
form_late kinds.Step (f ∷ []) n e = omega (arith, same_Err e)
form_late kinds.Step (f ∷ r ∷ fs) n e = given_late 1 3 (rule_named r) (λ k gs. onto (Said.step f k) (citations gs)) (omega arith) (λ k. onto_late 1 (Said.step f k) citations (citations_late 1 (omega arith))) fs n e
form_late kinds.Close fs n e = alone_late 1 2 Said.close (omega arith) fs n e
form_late kinds.Separator fs n e = alone_late 1 2 Said.separator (omega arith) fs n e
form_late kinds.Base [] n e = omega (arith, same_Err e)
form_late kinds.Base (f ∷ fs) n e = onto_late 1 Said.base (λ gs. given 2 (number f) (λ v. alone v 3 gs)) (given_late 1 2 (number f) (λ v. alone v 3) (omega arith) (λ v. alone_late 1 3 v (omega arith))) fs n e
form_late kinds.Pair [] n e = omega (arith, same_Err e)
form_late kinds.Pair (f ∷ fs) n e = given_late 1 2 (number f) (last_number Said.pair) (omega arith) (λ u. last_late 1 Said.pair u (omega arith)) fs n e
form_late kinds.Nucleus [] n e = omega (arith, same_Err e)
form_late kinds.Nucleus (f ∷ fs) n e = onto_late 1 Said.nucleus (λ gs. given 2 (number f) (λ v. alone v 3 gs)) (given_late 1 2 (number f) (λ v. alone v 3) (omega arith) (λ v. alone_late 1 3 v (omega arith))) fs n e
form_late kinds.Value [] n e = omega (arith, same_Err e)
form_late kinds.Value (f ∷ fs) n e = given_late 1 2 (letter f) (last_number Said.value) (omega arith) (λ a. last_late 1 Said.value a (omega arith)) fs n e

step_local : (f : List ℕ) → Local 2 (λ fs. step_form (f ∷ fs))
step_local f = next_local 2 (λ fs. step_form (f ∷ fs)) late (λ r. given_local 3 3 (rule_named r) (λ k gs. onto (Said.step f k) (citations gs)) (λ k. onto_local 3 (Said.step f k) citations citations_local))
  where
    late : Late 2 (λ fs. step_form (f ∷ fs))
    late [] n e = omega (arith, same_Err e)
    late (r ∷ fs) n e = given_late 2 3 (rule_named r) (λ k gs. onto (Said.step f k) (citations gs)) (omega arith) (λ k. onto_late 2 (Said.step f k) citations (citations_late 2 (omega arith))) fs n e

form_local : (k : Kind) → Local 1 (form k)
form_local kinds.Mode = next_local 1 (form kinds.Mode) (form_late kinds.Mode) (λ f. given_local 2 2 (mode_named f) (λ m. alone (Said.mode m) 3) (λ m. alone_local 2 (Said.mode m)))
form_local kinds.Premise = next_local 1 (form kinds.Premise) (form_late kinds.Premise) (λ f. onto_local 2 Said.premise (alone f 3) (alone_local 2 f))
form_local kinds.Assume = next_local 1 (form kinds.Assume) (form_late kinds.Assume) (λ f. onto_local 2 Said.assume (alone f 3) (alone_local 2 f))
form_local kinds.Step = next_local 1 (form kinds.Step) (form_late kinds.Step) step_local
form_local kinds.Close = alone_local 1 Said.close
form_local kinds.Separator = alone_local 1 Said.separator
form_local kinds.Base = next_local 1 (form kinds.Base) (form_late kinds.Base) (λ f. onto_local 2 Said.base (λ gs. given 2 (number f) (λ v. alone v 3 gs)) (given_local 2 2 (number f) (λ v. alone v 3) (alone_local 2)))
form_local kinds.Pair = next_local 1 (form kinds.Pair) (form_late kinds.Pair) (λ f. given_local 2 2 (number f) (last_number Said.pair) (last_local Said.pair))
form_local kinds.Nucleus = next_local 1 (form kinds.Nucleus) (form_late kinds.Nucleus) (λ f. onto_local 2 Said.nucleus (λ gs. given 2 (number f) (λ v. alone v 3 gs)) (given_local 2 2 (number f) (λ v. alone v 3) (alone_local 2)))
form_local kinds.Value = next_local 1 (form kinds.Value) (form_late kinds.Value) (λ f. given_local 2 2 (letter f) (last_number Said.value) (last_local Said.value))

module _ (format : Format) (turn : Turn) where
  entry_late : Late 0 (entry_form format turn)
  entry_late [] n e = omega (arith, same_Err e)
  entry_late (f ∷ fs) n e = given_late 0 1 (kind_named f) (λ k gs. given 1 (follow format turn k) (λ t. onto (λ y. (y, t)) (form k gs))) (omega arith) (λ k. given_late 0 1 (follow format turn k) (λ t gs. onto (λ y. (y, t)) (form k gs)) (omega arith) (λ t. onto_late 0 (λ y. (y, t)) (form k) (λ gs m d. omega (arith, form_late k gs m d)))) fs n (sym (by_kind_named format turn f fs) ∙ e)

  headed_local : (f : List ℕ) → Local 1 (λ fs. entry_form format turn (f ∷ fs))
  headed_local f front more rest n e here =
      by_kind_named format turn f (front ++ rest)
      ∙ given_local 1 1 (kind_named f) (λ k gs. given 1 (follow format turn k) (λ t. onto (λ y. (y, t)) (form k gs)))
      (λ k. given_local 1 1 (follow format turn k) (λ t gs. onto (λ y. (y, t)) (form k gs)) (λ t. onto_local 1 (λ y. (y, t)) (form k) (form_local k))) front more rest n (sym (by_kind_named format turn f (front ++ more)) ∙ e) here

  pub entry_local : (front more rest : List (List ℕ)) (n : ℕ) → entry_form format turn (front ++ more) ≡ Err n → n ≤ length front → entry_form format turn (front ++ rest) ≡ Err n
  entry_local front more rest n e here = next_local 0 (entry_form format turn) entry_late headed_local front more rest n e (omega (arith, here))
