-- What algebras over other algebras mean.
use Rattle.std.specs.Prelude.{ℕ, ◌+◌, ◌*◌, ◌/◌, ◌%◌, ◌≤◌, cond, ◌&&◌, ◌==◌, nat_le}
use Rattle.heyting.specs.Limits.{most_span}
use Rattle.heyting.specs.Meaning.{Meaning}

-- the algebra of one member, which a layer means that making would refuse
abbrev pub single : Meaning
single = record {
  span = 1;
  member = λ a. (a == 0);
  bottom = 0;
  top = 0;
  meet = λ a b. 0;
  join = λ a b. 0;
  arrow = λ a b. 0;
}

-- the code of a pair, where the second part is below the span s
abbrev pub coded : ℕ → ℕ → ℕ → ℕ
coded s a b = a * s + b

-- the pairs of a member of m and a member of n, part by part
abbrev pub pairs : Meaning → Meaning → Meaning
pairs m n = record {
  span = m.span * n.span;
  member = λ a. m.member (a / n.span) && n.member (a % n.span);
  bottom = coded n.span m.bottom n.bottom;
  top = coded n.span m.top n.top;
  meet = λ a b. coded n.span (m.meet (a / n.span) (b / n.span)) (n.meet (a % n.span) (b % n.span));
  join = λ a b. coded n.span (m.join (a / n.span) (b / n.span)) (n.join (a % n.span) (b % n.span));
  arrow = λ a b. coded n.span (m.arrow (a / n.span) (b / n.span)) (n.arrow (a % n.span) (b % n.span));
}

-- whether a product is small enough to be made
abbrev pub Pairable : Meaning → Meaning → Type 0
Pairable m n = m.span * n.span ≤ most_span

abbrev pub product : Meaning → Meaning → Meaning
product m n = cond (nat_le (m.span * n.span) most_span) (pairs m n) single

-- the nucleus at e
abbrev pub closure : Meaning → ℕ → ℕ → ℕ
closure m e x = m.arrow (m.arrow x e) e

-- the members that the nucleus at e fixes
abbrev pub fixed : Meaning → ℕ → Meaning
fixed m e = record {
  span = m.span;
  member = λ a. m.member a && (closure m e a == a);
  bottom = closure m e m.bottom;
  top = m.top;
  meet = m.meet;
  join = λ a b. closure m e (m.join a b);
  arrow = m.arrow;
}

abbrev pub nucleus : Meaning → ℕ → Meaning
nucleus m e = cond (m.member e) (fixed m e) single

-- the double-negation layer
abbrev pub regular : Meaning → Meaning
regular m = nucleus m m.bottom
