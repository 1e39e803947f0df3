-- What records say.
use Rattle.std.specs.Prelude.{ℕ, List}
use Rattle.fitch.specs.declared.mode.Mode.{Mode as AMode}
use Rattle.fitch.specs.declared.rule.Rule.{Rule}
use Rattle.entries.specs.declared.citations.Citations.{Citations}
use Rattle.entries.specs.declared.citations.Citations.TheVariants.{One, Two, Three}
use Rattle.entries.specs.declared.entry.Entry.{Entry}
use Rattle.entries.specs.declared.entry.Entry.TheVariants.{Mode, Premise, Assume, Step, Close, Separator, Base, Pair, Nucleus, Value}

-- what a record says, with its formula as an F: a text, or a place
pub data Said (F : Type 0) : Type 0 where
  mode : AMode → Said F
  premise assume : F → Said F
  step : F → Rule → List ℕ → Said F
  close separator : Said F
  base : ℕ → Said F
  pair : ℕ → ℕ → Said F
  nucleus : ℕ → Said F
  value : ℕ → ℕ → Said F

abbrev pub cited : Citations → List ℕ
cited (One cs) = cs
cited (Two cs) = cs
cited (Three cs) = cs

-- what the code's record says, where f tells its formula
abbrev pub said_by : {A F : Type 0} → (A → F) → Entry A → Said F
said_by f (Mode m) = Said.mode m
said_by f (Premise a) = Said.premise (f a)
said_by f (Assume a) = Said.assume (f a)
said_by f (Step a r cs) = Said.step (f a) r (cited cs)
said_by f Close = Said.close
said_by f Separator = Said.separator
said_by f (Base n) = Said.base n
said_by f (Pair u v) = Said.pair u v
said_by f (Nucleus e) = Said.nucleus e
said_by f (Value a e) = Said.value a e

-- what the code's record says, with its formula by its place in a store
abbrev pub stored : Entry ℕ → Said ℕ
stored e = said_by (λ p. p) e
