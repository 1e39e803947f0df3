use Rattle.std.proofs.Common.{rules, ◌≡◌, ℕ, ◌<◌, true, length, get_or, MatchOption}
use Rattle.entries.specs.declared.entry.Entry.TheVariants.{Close}
use Rattle.algebra_files.specs.Cutting.{gives}
use Rattle.algebra_files.proofs.Runs.{last_of}
use Rattle.algebra_files.proofs.file.Values.last_for.Goals as goal

pub returns : goal.returns
returns c =
    let es = c.args.self.now.entries.now in
    let told : MatchOption c.rposition.result ((k : ℕ) → k < length es → gives c.args.byte (get_or es k Close) ≡ true → ⊥)
    (λ k. (k < length es) × (gives c.args.byte (get_or es k Close) ≡ true) × ((j : ℕ) → k < j → j < length es → gives c.args.byte (get_or es j Close) ≡ true → ⊥)) = search rules in
    last_of es c.args.self.now.only c.args.byte c.rposition.result told
