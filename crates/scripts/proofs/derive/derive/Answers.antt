use Rattle.std.proofs.Common.{◌≤◌, map, length, refl, arith}
use Rattle.std.proofs.lemmas.List.{length-map}
use Rattle.entries.specs.Entries.{stored}
use Rattle.entries.proofs.Places.{out_within}
use Rattle.scripts.proofs.Deriving.{records_shown}
use Rattle.scripts.specs.Proofs.{DerivesRecords}
use Rattle.scripts.proofs.derive.derive.Goals as goal

pub overflow_add-result : goal.overflow_add-result
overflow_add-result c =
    let es = c.args.entries.now in
    let within : c.in-Some.place ≤ length (map stored es) = out_within (map stored es) c.in-Some.ensures in
    omega (arith, within, length-map es stored)

pub returns-in-Some-clause-exact : goal.returns-in-Some-clause-exact
returns-in-Some-clause-exact c = DerivesRecords.out_of_turn c.in-Some.place c.in-Some.ensures refl refl

pub returns-in-None : goal.returns-in-None
returns-in-None c =
    let shown = records_shown c.mode_of.ensures c.derive_by.ensures in
    record { exact = DerivesRecords.in_turn c.in-None.ensures shown.exact; entails = shown.entails }
