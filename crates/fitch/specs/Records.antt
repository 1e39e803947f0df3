-- What is kept of a history, for look-ups in constant time.
use Rattle.std.specs.Prelude.{◌≡◌, ℕ, suc, ◌-◌, ◌⊎◌, List, [], ◌∷◌, ◌++◌, slice_index, slice_index_or, slice_set}
use Rattle.grammar.specs.Formula.{Formula}
use Rattle.grammar.specs.Formula.Formula.{falsum}
use Rattle.fitch.specs.declared.rule.Reason.{Reason}
use Rattle.fitch.specs.declared.rule.Reason.TheVariants.{Premise, Assumption, Step}
use Rattle.fitch.specs.History.{premise, begin, assume, step, close, History, Box, count, outer, boxes}

-- the name of the innermost of bs, or 0
abbrev pub innermost : List Box → ℕ
innermost [] = 0
innermost (b ∷ bs) = b.first

-- k is the name of a box of bs
abbrev pub Names : ℕ → List Box → Type 0
Names k [] = ⊥
Names k (b ∷ bs) = (k ≡ b.first) ⊎ Names k bs

-- an open box by its first line and the last line written directly in it
pub record Reach : Type 0 where
  pub first : ℕ
  pub end : ℕ

-- the first line of the innermost box of a table, or 0
abbrev pub top_first : List Reach → ℕ
top_first [] = 0
top_first (t ∷ ts) = t.first

abbrev pub moved : ℕ → List Reach → List Reach
moved n [] = []
moved n (t ∷ ts) = record { first = t.first; end = n } ∷ ts

-- the table of the open boxes, innermost first
abbrev pub table : History → List Reach
table [] = []
table (premise A ∷ h) = moved (suc (count h)) (table h)
table (begin ∷ h) = table h
table (assume A ∷ h) = record { first = suc (count h); end = suc (count h) } ∷ table h
table (step A r is ∷ h) = moved (suc (count h)) (table h)
table (close ∷ h) = outer (table h)

-- a line as it is kept; the last two numbers are those of a box's first line: the box around it, and its end once it is closed
pub record Kept : Type 0 where
  pub formula : Formula
  pub reason : Reason
  pub inside : ℕ
  pub around : ℕ
  pub end : ℕ

abbrev pub plain : Formula → Reason → ℕ → Kept
plain A why b = record { formula = A; reason = why; inside = b; around = 0; end = 0 }

abbrev pub blank : Kept
blank = plain falsum Premise 0

-- a step's citations as they are kept
abbrev pub padded : List ℕ → List ℕ
padded is = slice_index is 0 ∷ slice_index is 1 ∷ slice_index is 2 ∷ []

abbrev pub with_end : Kept → ℕ → Kept
with_end k n = record { formula = k.formula; reason = k.reason; inside = k.inside; around = k.around; end = n }

-- the end of the innermost open box is put into its first line's record
abbrev pub ended : List Reach → List Kept → List Kept
ended [] ks = ks
ended (t ∷ ts) ks = slice_set ks (t.first - 1) (with_end (slice_index_or ks (t.first - 1) blank) t.end)

abbrev pub records : History → List Kept
records [] = []
records (premise A ∷ h) = records h ++ plain A Premise (innermost (boxes h)) ∷ []
records (begin ∷ h) = records h
records (assume A ∷ h) = records h ++ record { formula = A; reason = Assumption; inside = suc (count h); around = innermost (boxes h); end = 0 } ∷ []
records (step A r is ∷ h) = records h ++ plain A (Step r (padded is)) (innermost (boxes h)) ∷ []
records (close ∷ h) = ended (table h) (records h)

-- why each line stands
abbrev pub reasons : History → List Reason
reasons [] = []
reasons (premise A ∷ h) = reasons h ++ Premise ∷ []
reasons (begin ∷ h) = reasons h
reasons (assume A ∷ h) = reasons h ++ Assumption ∷ []
reasons (step A r is ∷ h) = reasons h ++ Step r (padded is) ∷ []
reasons (close ∷ h) = reasons h
