-- The names of the rules.
use Rattle.std.specs.Prelude.{ℕ, List, codes}
use Rattle.fitch.specs.declared.rule.Rule.{Rule}
use Rattle.fitch.specs.declared.rule.Rule.TheVariants.{Reiterate, AndIntro, AndLeft, AndRight, OrLeft, OrRight, OrElim, ImpIntro, ImpElim, ExFalso, Reductio}

abbrev pub name_of : Rule → List ℕ
name_of Reiterate = codes "R"
name_of AndIntro = codes "&I"
name_of AndLeft = codes "&1"
name_of AndRight = codes "&2"
name_of OrLeft = codes "|1"
name_of OrRight = codes "|2"
name_of OrElim = codes "|E"
name_of ImpIntro = codes ">I"
name_of ImpElim = codes ">E"
name_of ExFalso = codes "#E"
name_of Reductio = codes "RA"
