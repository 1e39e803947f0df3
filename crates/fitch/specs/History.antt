-- A derivation is what the history of its accepted calls says, newest first.
use Rattle.std.specs.Prelude.{◌≡◌, ℕ, zero, suc, ◌<◌, ◌≤◌, Bool, true, false, List, [], ◌∷◌, ◌++◌, map, length, Some, None, Option}
use mathlib.Core.List.{Memᴰ}
use Rattle.std.specs.List.{slice_get}
use Rattle.grammar.specs.Formula.{Formula}
use Rattle.fitch.specs.Limits.{most_premises, most_lines, most_boxes}
use Rattle.fitch.specs.Rules.{Cited, line, box, Fits, Serves}
use Rattle.fitch.specs.declared.mode.Mode.{Mode}
use Rattle.fitch.specs.declared.rule.Rule.{Rule}

-- a step's call has the rule's name and its citations
pub data Call : Type 0 where
  premise assume : Formula → Call
  begin close : Call
  step : Formula → Rule → List ℕ → Call

abbrev pub History : Type 0
History = List Call

-- a box: the number of its first line, and that line's formula
pub record Box : Type 0 where
  pub first : ℕ
  pub assumes : Formula

-- a line: its formula, and the boxes that contain it, innermost first
pub record Line : Type 0 where
  pub formula : Formula
  pub inside : List Box

-- how many lines are written
abbrev pub count : History → ℕ
count [] = 0
count (premise A ∷ h) = suc (count h)
count (begin ∷ h) = count h
count (assume A ∷ h) = suc (count h)
count (step A r is ∷ h) = suc (count h)
count (close ∷ h) = count h

abbrev pub outer : {X : Type 0} → List X → List X
outer [] = []
outer (b ∷ bs) = bs

-- the boxes that are open, innermost first
abbrev pub boxes : History → List Box
boxes [] = []
boxes (premise A ∷ h) = boxes h
boxes (begin ∷ h) = boxes h
boxes (assume A ∷ h) = record { first = suc (count h); assumes = A } ∷ boxes h
boxes (step A r is ∷ h) = boxes h
boxes (close ∷ h) = outer (boxes h)

-- the lines, in the order in which they were accepted: those that contain a line are the boxes open just after it
abbrev pub lines : History → List Line
lines [] = []
lines (premise A ∷ h) = lines h ++ record { formula = A; inside = boxes h } ∷ []
lines (begin ∷ h) = lines h
lines (assume A ∷ h) = lines h ++ record { formula = A; inside = record { first = suc (count h); assumes = A } ∷ boxes h } ∷ []
lines (step A r is ∷ h) = lines h ++ record { formula = A; inside = boxes h } ∷ []
lines (close ∷ h) = lines h

abbrev pub premises : History → List Formula
premises [] = []
premises (premise A ∷ h) = premises h ++ A ∷ []
premises (begin ∷ h) = premises h
premises (assume A ∷ h) = premises h
premises (step A r is ∷ h) = premises h
premises (close ∷ h) = premises h

-- whether premises are still gathered
abbrev pub gathering : History → Bool
gathering [] = true
gathering (premise A ∷ h) = gathering h
gathering (begin ∷ h) = false
gathering (assume A ∷ h) = false
gathering (step A r is ∷ h) = false
gathering (close ∷ h) = false

-- line i, counted from 1
abbrev pub line_at : History → ℕ → Option Line
line_at h zero = None
line_at h (suc k) = slice_get (lines h) k

-- the formulas in force at a line
abbrev pub in_force : History → Line → List Formula
in_force h l = premises h ++ map (λ b. b.assumes) l.inside

-- line i is A, and bs are the boxes that contain it
abbrev pub Stands : History → ℕ → Formula → List Box → Type 0
Stands h i A bs = line_at h i ≡ Some (record { formula = A; inside = bs })

-- every box of bs is open
abbrev pub Open : History → List Box → Type 0
Open h bs = (b : Box) → Memᴰ b bs → Memᴰ b (boxes h)

-- line i is A, and is reachable
pub record Reads (h : History) (i : ℕ) (A : Formula) : Type 0 where
  pub inside : List Box
  pub stands : Stands h i A inside
  pub reachable : Open h inside

-- box b assumes A, ends with C, and is reachable
pub record Shows (h : History) (b : ℕ) (A C : Formula) : Type 0 where
  pub around : List Box
  pub end : ℕ
  pub first : Stands h b A (record { first = b; assumes = A } ∷ around)
  pub last : Stands h end C (record { first = b; assumes = A } ∷ around)
  pub latest : (k : ℕ) (D : Formula) → Stands h k D (record { first = b; assumes = A } ∷ around) → k ≤ end
  pub closed : Memᴰ (record { first = b; assumes = A }) (boxes h) → ⊥
  pub reachable : Open h around

-- what citation i stands for, where it is reachable
abbrev pub Cites : History → ℕ → Cited → Type 0
Cites h i (line A) = Reads h i A
Cites h b (box A C) = Shows h b A C

abbrev pub CitesAll : History → List ℕ → List Cited → Type 0
CitesAll h [] [] = Unit {0}
CitesAll h [] (c ∷ cs) = ⊥
CitesAll h (i ∷ is) [] = ⊥
CitesAll h (i ∷ is) (c ∷ cs) = Cites h i c × CitesAll h is cs

-- a rule permits A from what its citations stand for
pub record Permits (mode : Mode) (h : History) (A : Formula) (r : Rule) (is : List ℕ) : Type 0 where
  pub serves : Serves mode r
  pub cited : List Cited
  pub cites : CitesAll h is cited
  pub fits : Fits r A cited

-- the calls that are accepted after h
abbrev pub Accepts : Mode → History → Call → Type 0
Accepts mode h (premise A) = (gathering h ≡ true) × (length (premises h) < most_premises) × (count h < most_lines)
Accepts mode h begin = gathering h ≡ true
Accepts mode h (assume A) = (gathering h ≡ false) × (length (boxes h) < most_boxes) × (count h < most_lines)
Accepts mode h (step A r is) = (gathering h ≡ false) × Permits mode h A r is × (count h < most_lines)
Accepts mode h close = (gathering h ≡ false) × (0 < length (boxes h))

-- every call of h was accepted after those before it
abbrev pub Written : Mode → History → Type 0
Written mode [] = Unit {0}
Written mode (c ∷ h) = Accepts mode h c × Written mode h
