use Rattle.std.proofs.Common.{◌<◌, length, rules}
use Rattle.algebra_files.specs.Meant.{ElementFor}
use Rattle.algebra_files.proofs.Runs.{last_within, element_given}
use Rattle.algebra_files.proofs.file.Values.element.Goals as goal

pub returns-in-None : goal.returns-in-None
returns-in-None c = ElementFor.none c.in-None.ensures

pub returns-in-Some : goal.returns-in-Some
returns-in-Some c = element_given c.args.self.now.entries.now c.args.bottom c.args.byte c.in-Some.k c.element_in.result _ c.args.self.now.only c.in-Some.ensures c.element_in.ensures

pub bounds-self-k : goal.bounds-self-k
bounds-self-k c = last_within c.args.self.now.entries.now c.args.byte c.in-Some.k c.args.self.now.only c.in-Some.ensures

pub offset_bounds-self-k : goal.offset_bounds-self-k
offset_bounds-self-k c =
    let within : c.in-Some.k < length c.args.self.now.entries.now = last_within c.args.self.now.entries.now c.args.byte c.in-Some.k c.args.self.now.only c.in-Some.ensures in
    search rules
