-- A derivation that is made, written and sealed in one call.
use Rattle.std.specs.Prelude.{◌≡◌, [], ◌∷◌, List, Err, Ok, Result}
use Rattle.std.specs.Borrow.{Bor}
use Rattle.formulas.specs.declared.store.Store.{Store}
use Rattle.fitch.specs.History.{History, begin}
use Rattle.fitch.specs.declared.mode.Mode.{Mode}
use Rattle.ledger.specs.declared.line.Line.{Line}
use Rattle.derivations.specs.Derived.{sheet_in, Derived, Leaves}
use Rattle.derivations.specs.Gathered.{sheet_of, Gathered}
use Rattle.derivations.specs.Finished.{sheet_by, Finished}
use Rattle.derivations.specs.Sheets.{SameSheet}
use Rattle.derivations.specs.Sheets.{Leaves as LeavesSheet}
use Rattle.derivations.specs.declared.gathering.Gathering.{Gathering}
use Rattle.derivations.specs.declared.open.Open.{Open}
use Rattle.derivations.specs.declared.sealed.Sealed.{Sealed}

-- g is made over a store and a slice of these line records
pub record Makes (t : Bor Store) (es : List Line) (m : Mode) (g : Gathering) : Type 0 where
  pub history : Gathered g []
  pub store : g.store ≡ t
  pub lines : g.lines.now ≡ es
  pub count : g.count ≡ 0
  pub mode : g.mode ≡ m

-- o is g, opened
pub record Opened (g : Gathering) (o : Open) : Type 0 where
  pub history : (h : History) → Gathered g h → Derived o (begin ∷ h)
  pub sheet : SameSheet (sheet_of g) (sheet_in o)
  pub premises : o.premises ≡ g.count

-- d is o, sealed
pub record SealedFrom (o : Open) (d : Sealed) : Type 0 where
  pub history : (h : History) → Derived o h → Finished d h
  pub sheet : SameSheet (sheet_in o) (sheet_by d)
  pub premises : d.premises ≡ o.premises
  pub boxes : d.boxes ≡ o.boxes

-- by what an author writes and tells, from o on: the answer, and what the slice holds in the end
pub data FromOpen {T E : Type 0} (writes : Open → Result Unit E → Open → Type 0) (tells : Sealed → Result T E → Type 0) (o : Open) (r : Result T E) (es : List Line) : Type 0 where
  stopped : {e : E} (after : Open) → writes o (Err e) after → Leaves o after → r ≡ Err e → es ≡ after.lines.now → FromOpen writes tells o r es
  told : {d : Sealed} (after : Open) → writes o (Ok tt) after → Leaves o after → SealedFrom after d → tells d r → es ≡ after.lines.now → FromOpen writes tells o r es

module _ {T E : Type 0} (gathers : Gathering → Result Unit E → Gathering → Type 0) (writes : Open → Result Unit E → Open → Type 0) (tells : Sealed → Result T E → Type 0) where
  -- by what it gathers as well, the same from g on
  pub data FromGathering (g : Gathering) (r : Result T E) (es : List Line) : Type 0 where
    stopped : {e : E} (after : Gathering) → gathers g (Err e) after → LeavesSheet (sheet_of g) (sheet_of after) → r ≡ Err e → es ≡ after.lines.now → FromGathering g r es
    opened : {o : Open} (after : Gathering) → gathers g (Ok tt) after → LeavesSheet (sheet_of g) (sheet_of after) → Opened after o → FromOpen writes tells o r es → FromGathering g r es

  -- a derivation over a store and a slice, from its making to its end
  pub record Whole (t : Bor Store) (before : List Line) (m : Mode) (r : Result T E) (after : List Line) : Type 0 where
    pub made : Gathering
    pub makes : Makes t before m made
    pub runs : FromGathering made r after
