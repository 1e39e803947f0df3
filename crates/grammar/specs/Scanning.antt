-- How a text is recognised: what its front still awaits, symbol by symbol, and what stands in it at a place.
use Rattle.std.specs.Prelude.{◌≡◌, ℕ, ◌+◌, ◌≤◌, List, [], ◌∷◌, ◌++◌, length, drop, slice_index}
use Rattle.grammar.specs.Symbols.{symbol}
use Rattle.grammar.specs.Formula.{Formula, nesting, joins}
use Rattle.grammar.specs.Texts.{Text}
use Rattle.grammar.specs.declared.symbol.Symbol.{Symbol}
use Rattle.grammar.specs.declared.symbol.Symbol.TheVariants.{Falsum, Letter, Not, Open, Close, Sign, Other}

pub data Awaited : Type 0 where
  formula : Awaited
  a_sign : Awaited
  close : Awaited

pub data State : Type 0 where
  wrong : State
  awaits : List Awaited → State

abbrev pub step : Symbol → List Awaited → State
step y [] = wrong
step Falsum (formula ∷ st) = awaits st
step Letter (formula ∷ st) = awaits st
step Not (formula ∷ st) = awaits (formula ∷ st)
step Open (formula ∷ st) = awaits (formula ∷ a_sign ∷ formula ∷ close ∷ st)
step Close (formula ∷ st) = wrong
step (Sign k) (formula ∷ st) = wrong
step Other (formula ∷ st) = wrong
step Falsum (a_sign ∷ st) = wrong
step Letter (a_sign ∷ st) = wrong
step Not (a_sign ∷ st) = wrong
step Open (a_sign ∷ st) = wrong
step Close (a_sign ∷ st) = wrong
step (Sign k) (a_sign ∷ st) = awaits st
step Other (a_sign ∷ st) = wrong
step Falsum (close ∷ st) = wrong
step Letter (close ∷ st) = wrong
step Not (close ∷ st) = wrong
step Open (close ∷ st) = wrong
step Close (close ∷ st) = awaits st
step (Sign k) (close ∷ st) = wrong
step Other (close ∷ st) = wrong

abbrev pub run : List ℕ → State → State
run [] σ = σ
run (b ∷ bs) wrong = wrong
run (b ∷ bs) (awaits st) = run bs (step (symbol b) st)

-- a text of f stands in s from a place up to an end
pub record Stands (s : List ℕ) (at end : ℕ) (f : Formula) : Type 0 where
  pub spelling : List ℕ
  pub text : Text f spelling
  pub here : drop at s ≡ spelling ++ drop end s
  pub long : end ≡ at + length spelling
  pub within : end ≤ length s

-- the machine that awaits st at a place of s comes to another place, and awaits to there
pub record Goes (s : List ℕ) (at end : ℕ) (st to : List Awaited) : Type 0 where
  pub passed : List ℕ
  pub here : drop at s ≡ passed ++ drop end s
  pub long : end ≡ at + length passed
  pub runs : run passed (awaits st) ≡ awaits to

-- a formula is awaited at a place of s, and i is the first place with a symbol that cannot stand there, or the end
pub record Breaks (s : List ℕ) (at i : ℕ) : Type 0 where
  pub within : i ≤ length s
  pub stuck : (st : List Awaited) → (a : Awaited) × (more : List Awaited) × Goes s at i (formula ∷ st) (a ∷ more) × (step (symbol (slice_index s i)) (a ∷ more) ≡ wrong)

-- what a scan that begins at a place finds
pub record Found (s : List ℕ) (at end nests marks : ℕ) : Type 0 where
  pub formula : Formula
  pub stands : Stands s at end formula
  pub nested : nests ≡ nesting formula
  pub signed : marks ≡ joins formula
