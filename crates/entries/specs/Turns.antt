-- The turns of records, as a grammar.
use Rattle.std.specs.Prelude.{Bool, true, false, Some, None, Option}
use Rattle.entries.specs.declared.kind.Kind.{Kind}
use Rattle.entries.specs.declared.kind.Kind.TheVariants as kinds
use Rattle.entries.specs.declared.turn.Format.{Format}
use Rattle.entries.specs.declared.turn.Format.TheVariants.{Proof, Weighing}
use Rattle.entries.specs.declared.turn.Turn.{Turn}
use Rattle.entries.specs.declared.turn.Turn.TheVariants.{Start, Premises, Body, Parted, First, Second, Layered, Values}

-- a table for one turn: what comes after each kind
abbrev by_kind : {A : Type 0} → (m p body sep k l n v : A) → Kind → A
by_kind m p body sep k l n v kinds.Mode = m
by_kind m p body sep k l n v kinds.Premise = p
by_kind m p body sep k l n v kinds.Assume = body
by_kind m p body sep k l n v kinds.Step = body
by_kind m p body sep k l n v kinds.Close = body
by_kind m p body sep k l n v kinds.Separator = sep
by_kind m p body sep k l n v kinds.Base = k
by_kind m p body sep k l n v kinds.Pair = l
by_kind m p body sep k l n v kinds.Nucleus = n
by_kind m p body sep k l n v kinds.Value = v

-- only where an algebra file is to follow
abbrev parting : Format → Option Turn
parting Proof = None
parting Weighing = Some Parted

-- the turn after a record of a kind, if one may come now
abbrev pub follow : Format → Turn → Kind → Option Turn
--                              M                P                A S Z       =          K              L              N              V
follow f Start = by_kind (Some Premises) None None None None None None None
follow f Premises = by_kind None (Some Premises) (Some Body) (parting f) None None None None
follow f Body = by_kind None None (Some Body) (parting f) None None None None
follow f Parted = by_kind None None None None (Some First) None None None
follow f First = by_kind None None None None (Some Second) (Some First) (Some Layered) (Some Values)
follow f Second = by_kind None None None None None (Some Second) (Some Layered) (Some Values)
follow f Layered = by_kind None None None None None None None (Some Values)
follow f Values = by_kind None None None None None None None (Some Values)

-- where an input may end
abbrev pub complete : Format → Turn → Bool
complete Proof Premises = true
complete Proof Body = true
complete Weighing First = true
complete Weighing Second = true
complete Weighing Layered = true
complete Weighing Values = true
complete _ _ = false
