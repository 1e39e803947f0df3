-- A chain of degrees obeys the laws.
use Rattle.std.specs.Prelude.{ℕ, ◌≤◌, min, ◌↔◌, nat_le}
use Rattle.std.proofs.Common.{arith}
use Rattle.std.proofs.lemmas.Bool.{ltb-true, lt-ltb, leb-true, leb-false, cond_both}
use Rattle.heyting.specs.Limits.{most_span}
use Rattle.heyting.specs.Meaning.{Member, Below, Lawful}
use Rattle.degrees.specs.Chains.{chain}

pub chain_lawful : (n : ℕ) → 1 ≤ n → n ≤ most_span → Lawful (chain n)
chain_lawful n least most = record {
  span_low = least;
  span_high = most;
  inside = λ a p. ltb-true a n p;
  bottom_in = lt-ltb _ n (omega arith);
  top_in = lt-ltb _ n (omega arith);
  meet_in = λ a b p q. lt-ltb _ n (omega (arith, ltb-true));
  join_in = λ a b p q. lt-ltb _ n (omega (arith, ltb-true));
  arrow_in = λ a b p q. cond_both (nat_le a b) _ b (Member (chain n)) (λ e. lt-ltb _ n (omega arith)) (λ e. q);
  meet_comm = λ a b p q. omega arith;
  meet_assoc = λ a b c p q r. omega arith;
  join_comm = λ a b p q. omega arith;
  join_assoc = λ a b c p q r. omega arith;
  meet_absorbs = λ a b p q. omega arith;
  join_absorbs = λ a b p q. omega arith;
  bottom_least = λ a p. omega arith;
  top_greatest = λ a p. omega (arith, ltb-true);
  residual = λ a b c p q r. cond_both (nat_le b c) _ c (λ x. Below (chain n) (min a b) c ↔ Below (chain n) a x)
      (λ e. (λ h. omega (arith, ltb-true), λ h. omega (arith, leb-true)))
      (λ e. (λ h. omega (arith, leb-false), λ h. omega arith));
}
