use Rattle.std.proofs.Common.{◌+◌, map, drop, sym, ap, ◌∙◌}
use Rattle.std.proofs.lemmas.List.{drop-drop, drop-map, take_rest}
use Rattle.entries.specs.Entries.{stored}
use Rattle.weighing_files.proofs.parts.split.Goals as goal

pub returns-in-len1-up-clause-algebra : goal.returns-in-len1-up-clause-algebra
returns-in-len1-up-clause-algebra c =
    ap (map stored) (take_rest c.split_at.result.1.now 1 ∙ ap (drop 1) c.split_at.ensures.back ∙ drop-drop 1 c.count_proof.result c.args.entries.now)
    ∙ sym (drop-map stored (c.count_proof.result + 1) c.args.entries.now)
    ∙ ap (λ n. drop (n + 1) (map stored c.args.entries.now)) c.count_proof.ensures.place
