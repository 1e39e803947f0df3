-- What a citation stands for, by the records.
use Rattle.std.specs.Prelude.{◌≡◌, ℕ, suc, ◌-◌, ◌<◌, ◌≤◌, ◌⊎◌, List, [], map, length, Some, None, ◌≢◌, slice_index, slice_index_or}
use Rattle.grammar.specs.Formula.{Formula}
use Rattle.grammar.specs.Formula.Formula.{falsum}
use Rattle.fitch.specs.History.{History, Line, Cites, Reads, Shows, count, line_at, Stands}
use Rattle.fitch.specs.Rules.{Cited, line, kind, kinds, Fits}
use Rattle.fitch.specs.declared.rule.Rule.{Rule}
use Rattle.fitch.specs.declared.rule.Kind.{Kind}
use Rattle.fitch.specs.declared.rule.Kind.TheVariants.{Line as a_line}
use Rattle.fitch.specs.Records.{Kept, records, blank}

-- a rule fits only citations of the kinds that it takes
abbrev pub OfTheirKinds : Type 0
OfTheirKinds = (r : Rule) (A : Formula) (cs : List Cited) → Fits r A cs → map kind cs ≡ kinds r

-- a citation stands for one line at most, and for one box at most
abbrev pub CitedOnce : Type 0
CitedOnce = (h : History) (i : ℕ) (c d : Cited) → kind c ≡ kind d → Cites h i c → Cites h i d → c ≡ d

-- the record of line i
abbrev pub kept_at : History → ℕ → Kept
kept_at h i = slice_index_or (records h) (i - 1) blank

-- box b is open or there is none
abbrev pub StillOpen : History → ℕ → Type 0
StillOpen h b = (b ≡ 0) ⊎ ((kept_at h b).end ≡ 0)

-- what the records say of a line and of a box
pub record Told (h : History) (i : ℕ) : Type 0 where
  pub line_here : StillOpen h (kept_at h i).inside → Reads h i (kept_at h i).formula
  pub no_line : (A : Formula) → Reads h i A → StillOpen h (kept_at h i).inside
  pub box_here : (kept_at h i).inside ≡ i → ((kept_at h i).end ≢ 0) → StillOpen h (kept_at h i).around → Shows h i (kept_at h i).formula (kept_at h (kept_at h i).end).formula
  pub no_box : (A C : Formula) → Shows h i A C → ((kept_at h i).inside ≡ i) × ((kept_at h i).end ≢ 0) × StillOpen h (kept_at h i).around
  pub top_line : (kept_at h i).inside ≡ 0 → Stands h i (kept_at h i).formula []
  pub top_only : (A : Formula) → Stands h i A [] → (kept_at h i).inside ≡ 0
  pub inside_within : (kept_at h i).inside ≤ count h
  pub around_within : ((kept_at h i).inside ≡ i) → (kept_at h i).around ≤ count h
  pub end_within : ((kept_at h i).inside ≡ i) → (kept_at h i).end ≤ count h

abbrev pub NumberedBoxes : Type 0
NumberedBoxes = (h : History) (i : ℕ) → 0 < i → i ≤ count h → Told h i

-- citation i stands for c, of the kind that is asked for
abbrev pub Resolved : History → Kind → ℕ → Cited → Type 0
Resolved h k i c = (kind c ≡ k) × Cites h i c

-- what a rule's j-th citation, counted from 0, stands for
abbrev pub Reached : History → Rule → List ℕ → ℕ → Cited → Type 0
Reached h r is j c = Resolved h (slice_index_or (kinds r) j a_line) (slice_index is j) c

-- of n citations, the k-th, counted from 1, is the first that is bad
abbrev pub FirstOf : (ℕ → Type 0) → (ℕ → Type 0) → ℕ → ℕ → Type 0
FirstOf Good Bad n k = (j : ℕ) × (k ≡ suc j) × (j < n) × Bad j × ((i : ℕ) → i < j → Good i)

-- the k-th citation is the first that names no line
abbrev pub Missing : History → List ℕ → ℕ → Type 0
Missing h is k = FirstOf (λ j. (l : Line) × (line_at h (slice_index is j) ≡ Some l)) (λ j. line_at h (slice_index is j) ≡ None) (length is) k

abbrev pub NoneMissing : History → List ℕ → Type 0
NoneMissing h is = (j : ℕ) → j < length is → (l : Line) × (line_at h (slice_index is j) ≡ Some l)

-- the k-th citation is the first that stands for nothing reachable of its kind
abbrev pub CutOff : History → Rule → List ℕ → ℕ → Type 0
CutOff h r is k = FirstOf (λ j. (c : Cited) × Reached h r is j c) (λ j. (c : Cited) → Reached h r is j c → ⊥) (length is) k

abbrev pub AllReached : History → Rule → List ℕ → List Cited → Type 0
AllReached h r is cs = (j : ℕ) → j < length is → Reached h r is j (slice_index_or cs j (line falsum))

abbrev pub NoneCutOff : History → Rule → List ℕ → Type 0
NoneCutOff h r is = (j : ℕ) → j < length is → (c : Cited) × Reached h r is j c

-- A is the last line that no box contains
pub record Concludes (h : History) (A : Formula) : Type 0 where
  pub end : ℕ
  pub last : Stands h end A []
  pub latest : (k : ℕ) (D : Formula) → Stands h k D [] → k ≤ end
