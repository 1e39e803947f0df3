-- What an algebra means. An algebra here is a Heyting algebra whose members are numbers below a span of at most 65,536, and so a finite one: a `Meaning` that is `Lawful`.
use Rattle.std.specs.Prelude.{◌≡◌, ℕ, ◌<◌, ◌≤◌, Bool, true, cond, ◌&&◌, ◌↔◌}
use Rattle.heyting.specs.Limits.{most_span}

pub record Meaning : Type 0 where
  pub span : ℕ
  pub member : ℕ → Bool
  pub bottom : ℕ
  pub top : ℕ
  pub meet : ℕ → ℕ → ℕ
  pub join : ℕ → ℕ → ℕ
  pub arrow : ℕ → ℕ → ℕ

-- a is a member
abbrev pub Member : Meaning → ℕ → Type 0
Member m a = m.member a ≡ true

-- a lies below b
abbrev pub Below : Meaning → ℕ → ℕ → Type 0
Below m a b = m.meet a b ≡ a

-- ~a
abbrev pub negation : Meaning → ℕ → ℕ
negation m a = m.arrow a m.bottom

-- what an operation answers at any two numbers: the bottom, unless both are members
abbrev pub guarded : Meaning → (ℕ → ℕ → ℕ) → ℕ → ℕ → ℕ
guarded m op a b = cond (m.member a && m.member b) (op a b) m.bottom

-- the laws, for all members
pub record Lawful (m : Meaning) : Type 0 where
  pub span_low : 1 ≤ m.span
  pub span_high : m.span ≤ most_span
  pub inside : (a : ℕ) → Member m a → a < m.span
  pub bottom_in : Member m m.bottom
  pub top_in : Member m m.top
  pub meet_in : (a b : ℕ) → Member m a → Member m b → Member m (m.meet a b)
  pub join_in : (a b : ℕ) → Member m a → Member m b → Member m (m.join a b)
  pub arrow_in : (a b : ℕ) → Member m a → Member m b → Member m (m.arrow a b)
  pub meet_comm : (a b : ℕ) → Member m a → Member m b → m.meet a b ≡ m.meet b a
  pub meet_assoc : (a b c : ℕ) → Member m a → Member m b → Member m c → m.meet (m.meet a b) c ≡ m.meet a (m.meet b c)
  pub join_comm : (a b : ℕ) → Member m a → Member m b → m.join a b ≡ m.join b a
  pub join_assoc : (a b c : ℕ) → Member m a → Member m b → Member m c → m.join (m.join a b) c ≡ m.join a (m.join b c)
  pub meet_absorbs : (a b : ℕ) → Member m a → Member m b → m.meet a (m.join a b) ≡ a
  pub join_absorbs : (a b : ℕ) → Member m a → Member m b → m.join a (m.meet a b) ≡ a
  pub bottom_least : (a : ℕ) → Member m a → Below m m.bottom a
  pub top_greatest : (a : ℕ) → Member m a → Below m a m.top
  pub residual : (a b c : ℕ) → Member m a → Member m b → Member m c → Below m (m.meet a b) c ↔ Below m a (m.arrow b c)

-- a Boolean algebra is an algebra in which a double negation lies below what it negates
abbrev pub Boolean : Meaning → Type 0
Boolean m = (a : ℕ) → Member m a → Below m (negation m (negation m a)) a
