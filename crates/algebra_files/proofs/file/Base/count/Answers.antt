use Rattle.std.proofs.Common.{map, arith}
use Rattle.std.proofs.lemmas.List.{length-map}
use Rattle.entries.specs.Entries.{stored}
use Rattle.entries.specs.AlgebraFiles.{pair_said}
use Rattle.algebra_files.specs.Reading.{pairs_in}
use Rattle.algebra_files.proofs.Runs.{pairs_length}
use Rattle.algebra_files.proofs.file.Base.count.Goals as goal

pub returns : goal.returns
returns c =
    let es = c.args.self.now.pairs.now in
    omega (arith, length-map (pairs_in (map stored es)) pair_said, pairs_length es c.args.self.now.only)
