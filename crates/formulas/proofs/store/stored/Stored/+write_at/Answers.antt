use Rattle.std.proofs.Common.{length, sym, ap, ◌∙◌, arith}
use Rattle.grammar.specs.Writing.{put}
use Rattle.grammar.proofs.Buffers.{put_first, put_joined}
use Rattle.grammar.proofs.Spelling.{spelled_long}
use Rattle.formulas.specs.Spelled.{text_of}
use Rattle.formulas.proofs.store.stored.Stored.+write_at.Goals as goal

pub returns-in-Joined-clause-wrote : goal.returns-in-Joined-clause-wrote
returns-in-Joined-clause-wrote t c =
    let j = c.in-Joined in
    let whole = j.ensures.2 in
    let m = c.write_at-middle in
    let e = c.write_at-end in
    put_joined c.args.buffer.now c.args.at (text_of j.first) (text_of j.second) j.sign (omega (arith, c.requires, ap length whole, spelled_long j.sign (text_of j.first) (text_of j.second))) m.new.buffer m.result m.ensures.wrote m.ensures.ends e.new.buffer e.result e.ensures.wrote e.ensures.ends
    ∙ ap (put c.args.buffer.now c.args.at) (sym whole)

pub returns-in-Atom-clause-wrote : goal.returns-in-Atom-clause-wrote
returns-in-Atom-clause-wrote t c =
    let e = c.in-Atom.ensures in
    put_first c.args.buffer.now c.args.at c.in-Atom.byte (omega (arith, c.requires, ap length e)) ∙ ap (put c.args.buffer.now c.args.at) (sym e)
