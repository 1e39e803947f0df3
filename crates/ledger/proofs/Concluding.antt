-- The last line that no box contains.
use Rattle.std.proofs.Common.{◌≡◌, ℕ, zero, suc, ◌-◌, ◌<◌, ◌≤◌, ◌≢◌, List, [], length, get_or, Some, sym, ap, ◌∙◌, subst, arith}
use native.Mathlib.Decide.{dec_lt}
use Rattle.std.proofs.lemmas.Option.{slice_get_past, slice_get-get_or}
use Rattle.grammar.specs.Contents.{formula_at}
use Rattle.grammar.specs.Formula.{Formula}
use Rattle.fitch.specs.History.{History, lines, Stands}
use Rattle.fitch.specs.Records.{Kept}
use Rattle.fitch.specs.Exact.{Concludes}
use Rattle.fitch.proofs.Nesting.{count_lines}
use Rattle.ledger.specs.Recorded.{no_line, Recorded}
use Rattle.ledger.specs.Telling.{record_of, IsLastTop}
use Rattle.ledger.specs.declared.line.Line.{Line}
use Rattle.ledger.proofs.Recording.{kept_entry, told}

module _ {fs : List Formula} {es : List Line} {h : History} (g : Recorded fs es (length es) h) where
  -- the record of the line of a number
  entry : (i : ℕ) → 0 < i → i ≤ length es → record_of es i ≡ Some (get_or es (i - 1) no_line)
  entry zero some within = absurd (omega arith)
  entry (suc k) some within = let e : k ≡ suc k - 1 = omega arith in slice_get-get_or es k no_line (omega arith) ∙ ap (λ j. Some (get_or es j no_line)) e

  top_at : (i : ℕ) → 0 < i → i ≤ length es → (get_or es (i - 1) no_line).inside ≡ 0 → Stands h i (formula_at fs (get_or es (i - 1) no_line).formula) []
  top_at i some within e =
      let P : Kept → Type 0 = λ k. k.inside ≡ 0 → Stands h i k.formula [] in
      let is = entry i some within in
      subst P (kept_entry g i _ is) (told g i _ is).top_line e

  -- a line that no box contains is recorded so
  top_of : (i : ℕ) (A : Formula) → Stands h i A [] → (0 < i) × (i ≤ length es) × ((get_or es (i - 1) no_line).inside ≡ 0)
  top_of zero A e = absurd (cc)
  top_of (suc k) A e = at (dec_lt k (length es))
    where
      at : Dec (k < length es) → (0 < suc k) × (suc k ≤ length es) × ((get_or es (suc k - 1) no_line).inside ≡ 0)
      at (yes lt) =
          let is = entry (suc k) (omega arith) lt in
          (omega arith, lt, sym (ap (λ q. q.inside) (kept_entry g (suc k) _ is)) ∙ (told g (suc k) _ is).top_only A e)
      at (no ge) = let b = slice_get_past (lines h) k (omega (arith, count_lines h, g.counted)) in absurd (cc)

  not_later : (found : ℕ) → IsLastTop es found → (k : ℕ) (A : Formula) → Stands h k A [] → k ≤ found
  not_later found z k A e = at (dec_lt found k)
    where
      t : (0 < k) × (k ≤ length es) × ((get_or es (k - 1) no_line).inside ≡ 0)
      t = top_of k A e

      at : Dec (found < k) → k ≤ found
      at (yes lt) = absurd (z.later (k - 1) (omega arith) (omega (arith, t.0, t.1)) t.2)
      at (no ge) = omega arith

  pub concluded : (found : ℕ) → IsLastTop es found → Concludes h (formula_at fs (get_or es (found - 1) no_line).formula)
  concluded found z = record { end = found; last = top_at found z.some z.within z.top; latest = not_later found z }

  pub unconcluded : ((k : ℕ) → k < length es → (get_or es k no_line).inside ≢ 0) → (k : ℕ) (A : Formula) → Stands h k A [] → ⊥
  unconcluded none k A e = let t = top_of k A e in none (k - 1) (omega (arith, t.0, t.1)) t.2
