-- The rules, over what their citations stand for.
use Rattle.std.specs.Prelude.{◌≡◌, List, [], ◌∷◌}
use Rattle.grammar.specs.Formula.{Formula, conjunction, disjunction, implication, negation}
use Rattle.grammar.specs.Formula.Formula.{falsum}
use Rattle.fitch.specs.declared.mode.Mode.{Mode}
use Rattle.fitch.specs.declared.mode.Mode.TheVariants.{Constructive, Classical}
use Rattle.fitch.specs.declared.rule.Rule.{Rule}
use Rattle.fitch.specs.declared.rule.Rule.TheVariants.{Reiterate, AndIntro, AndLeft, AndRight, OrLeft, OrRight, OrElim, ImpIntro, ImpElim, ExFalso, Reductio}
use Rattle.fitch.specs.declared.rule.Kind.{Kind}
use Rattle.fitch.specs.declared.rule.Kind.TheVariants.{Line as a_line, Box as a_box}

-- what a citation stands for: a line's formula, or what a box assumes and ends with
pub data Cited : Type 0 where
  line : Formula → Cited
  box : Formula → Formula → Cited

abbrev pub kind : Cited → Kind
kind (line A) = a_line
kind (box A C) = a_box

-- what a rule cites
abbrev pub kinds : Rule → List Kind
kinds Reiterate = a_line ∷ []
kinds AndIntro = a_line ∷ a_line ∷ []
kinds AndLeft = a_line ∷ []
kinds AndRight = a_line ∷ []
kinds OrLeft = a_line ∷ []
kinds OrRight = a_line ∷ []
kinds OrElim = a_line ∷ a_box ∷ a_box ∷ []
kinds ImpIntro = a_box ∷ []
kinds ImpElim = a_line ∷ a_line ∷ []
kinds ExFalso = a_line ∷ []
kinds Reductio = a_box ∷ []

-- the rules: A follows from what is cited
abbrev pub Fits : Rule → Formula → List Cited → Type 0
Fits Reiterate A cs = cs ≡ line A ∷ []
Fits AndIntro A cs = (B C : Formula) × (A ≡ conjunction B C) × (cs ≡ line B ∷ line C ∷ [])
Fits AndLeft A cs = (B : Formula) × (cs ≡ line (conjunction A B) ∷ [])
Fits AndRight A cs = (B : Formula) × (cs ≡ line (conjunction B A) ∷ [])
Fits OrLeft A cs = (B C : Formula) × (A ≡ disjunction B C) × (cs ≡ line B ∷ [])
Fits OrRight A cs = (B C : Formula) × (A ≡ disjunction B C) × (cs ≡ line C ∷ [])
Fits OrElim A cs = (B C : Formula) × (cs ≡ line (disjunction B C) ∷ box B A ∷ box C A ∷ [])
Fits ImpIntro A cs = (B C : Formula) × (A ≡ implication B C) × (cs ≡ box B C ∷ [])
Fits ImpElim A cs = (B : Formula) × (cs ≡ line (implication B A) ∷ line B ∷ [])
Fits ExFalso A cs = cs ≡ line falsum ∷ []
Fits Reductio A cs = cs ≡ box (negation A) falsum ∷ []

-- the rules of a mode
abbrev pub Serves : Mode → Rule → Type 0
Serves Classical r = Unit {0}
Serves Constructive Reiterate = Unit {0}
Serves Constructive AndIntro = Unit {0}
Serves Constructive AndLeft = Unit {0}
Serves Constructive AndRight = Unit {0}
Serves Constructive OrLeft = Unit {0}
Serves Constructive OrRight = Unit {0}
Serves Constructive OrElim = Unit {0}
Serves Constructive ImpIntro = Unit {0}
Serves Constructive ImpElim = Unit {0}
Serves Constructive ExFalso = Unit {0}
Serves Constructive Reductio = ⊥
