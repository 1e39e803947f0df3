use Rattle.std.proofs.Common.{◌≡◌, ℕ, suc, ◌+◌, ◌-◌, List, [], ◌∷◌, ◌++◌, length, set, ap, ◌∙◌, arith, append-nil}
use Rattle.std.proofs.lemmas.List.{drop_all}
use borrow.Rule.Slice.PartMut.{put_mid}
use Rattle.printing.proofs.field.write_field.Goals as goal

-- a byte is set at the front, and the rest is written over
filled : (b f : List ℕ) (t : ℕ) → length b ≡ length f + 1 → put_mid 1 (length (set b 0 t) - 1) (set b 0 t) f ≡ t ∷ f
filled [] f t h = absurd (omega (arith, h))
filled (x ∷ b) f t h = ap (λ l. t ∷ (f ++ l)) (drop_all (suc (length b) - 1) b (omega arith)) ∙ ap (λ l. t ∷ l) (append-nil f)

pub returns : goal.returns
returns c = ap (λ f. put_mid 1 (length (set c.args.buffer.now 0 9) - 1) (set c.args.buffer.now 0 9) f) c.copy_from_slice.ensures.after ∙ filled c.args.buffer.now c.args.field.now 9 c.requires
