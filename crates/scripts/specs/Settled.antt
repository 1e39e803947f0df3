-- The records of a proof file do not end in two ways.
use Rattle.std.specs.Prelude.{◌≡◌, ℕ, List, Ok, Err, Option, Result}
use Rattle.grammar.specs.Contents.{Once}
use Rattle.grammar.specs.Formula.{Formula}
use Rattle.fitch.specs.History.{History}
use Rattle.ledger.specs.Sequents.{premise_places}
use Rattle.ledger.specs.declared.line.Line.{Line}
use Rattle.entries.specs.Entries.{Said}
use Rattle.answers.specs.declared.checked.Checked.{Checked}
use Rattle.answers.specs.declared.fault.Fault.{Fault}
use Rattle.scripts.specs.Proofs.{RunsAll, RecordsShow, LinesOf, DerivesRecords}

-- the same in all that is told
pub record SameShown (c d : Checked) : Type 0 where
  pub mode : c.sequent.mode ≡ d.sequent.mode
  pub premises : premise_places c.sequent ≡ premise_places d.sequent
  pub conclusion : c.sequent.conclusion ≡ d.sequent.conclusion
  pub lines : c.lines ≡ d.lines

abbrev pub SameAnswer : Result Checked Fault → Result Checked Fault → Type 0
SameAnswer (Ok c) (Ok d) = SameShown c d
SameAnswer (Ok c) (Err e) = ⊥
SameAnswer (Err e) (Ok d) = ⊥
SameAnswer (Err e) (Err d) = e ≡ d

-- records reach one history, stopped by one fault or by none; and over formulas that are held once they show one thing, or have one first fault, and leave one slice; in turn or not, they have one answer
pub record OneDerivation : Type 0 where
  pub runs :
      (fs : List Formula) (slice : ℕ) (xs : List (Said ℕ)) (h k : History) (d e : Option Fault)
      → RunsAll fs slice xs h d → RunsAll fs slice xs k e → (h ≡ k) × (d ≡ e)
  pub answers :
      (fs : List Formula) (slice : ℕ) (xs : List (Said ℕ)) (h k : History) (a b : Result Checked Fault)
      → Once fs → RecordsShow fs slice xs h a → RecordsShow fs slice xs k b → (h ≡ k) × SameAnswer a b
  pub lines : (fs : List Formula) → Once fs → (before a b : List Line) (h : History) → LinesOf fs before a h → LinesOf fs before b h → a ≡ b
  pub derives :
      (fs : List Formula) → Once fs → (xs : List (Said ℕ)) (before a b : List Line) (r q : Result Checked Fault)
      → DerivesRecords fs before a xs r → DerivesRecords fs before b xs q → SameAnswer r q × (a ≡ b)
