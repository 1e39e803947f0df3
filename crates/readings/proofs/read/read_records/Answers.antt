use Rattle.std.proofs.Common.{◌≡◌, suc, ◌+◌, ◌++◌, ◌∷◌, ◌≤◌, ◌<◌, length, subst, true, false, [], Ok, Err, sym, ap, rules, tests, arith}
use Rattle.std.proofs.lemmas.Grind.{common_steps}
use Rattle.formulas.specs.Stores.{capacity, contents}
use Rattle.records.specs.Cursors.{records_to_come, piece}
use Rattle.entries.specs.Entries.{stored}
use Rattle.entries.specs.Turns.{complete}
use Rattle.readings.specs.Reading.{ReadsRecord}
use Rattle.readings.specs.Answers.{ReadsNumbered}
use Rattle.readings.proofs.Going.{SoFar, front, front_more, one_kept, one_more, stopped_by, all_read, one_absent, same_capacity, stay_on}
use Rattle.readings.proofs.read.read_records.Goals as goal

pub returns-in_err-entry-clause-read : goal.returns-in_err-entry-clause-read
returns-in_err-entry-clause-read c =
    let l = c.loop-source in
    let entry = c.args.store.now in
    let rest = records_to_come c.next.new.self in
    let held = contents c.read_record.new.store in
    let wrong = c.in_err-entry.field-0.0 in
    let refused : c.from_residual.result ≡ Err wrong = grind (arith, common_steps) in
    let within : l.count ≤ length l.entries = omega (arith, l.invariant.left, l.invariant.keeps.0, c.requires) in
    rw refused
    (stopped_by (capacity entry) c.args.format c.args.input.now (contents entry) l.turn l.count c.args.entries.now l.entries within l.invariant.keeps (piece c.in-Some.source) rest (contents l.store) held wrong
    (subst (λ ps. SoFar (capacity entry) c.args.format c.args.input.now (contents entry) l.turn l.count (front l.count l.entries) ps (contents l.store)) c.in-Some.ensures l.invariant.so_far)
    (subst (λ n. ReadsNumbered n c.args.format l.turn (l.count + 1) (piece c.in-Some.source) (contents l.store) held (Err wrong)) (same_capacity l.invariant.stay) c.in_err-entry.ensures.reads))

pub loop-source-preserved : goal.loop-source-preserved
loop-source-preserved c =
    let l = c.loop-source in
    let entry = c.args.store.now in
    let said = c.in_ok-entry.entry in
    let rest = records_to_come c.next.new.self in
    let held = contents c.read_record.new.store in
    let one_less : length (records_to_come l.rest) ≡ suc (length rest) = ap length c.in-Some.ensures in
    let within : l.count < length l.entries = omega (arith, one_less, l.invariant.left, l.invariant.keeps.0, c.requires) in
    let here : ReadsRecord (capacity entry) c.args.format l.turn (piece c.in-Some.source) (contents l.store) held (Ok (stored said, c.in_ok-entry.next)) =
    subst (λ n. ReadsRecord n c.args.format l.turn (piece c.in-Some.source) (contents l.store) held (Ok (stored said, c.in_ok-entry.next))) (same_capacity l.invariant.stay)
    c.in_ok-entry.ensures.reads in
    let more : SoFar (capacity entry) c.args.format c.args.input.now (contents entry) c.in_ok-entry.next (l.count + 1) (front l.count l.entries ++ stored said ∷ []) rest held =
    one_more (capacity entry) c.args.format c.args.input.now (contents entry) l.turn c.in_ok-entry.next l.count (front l.count l.entries) (piece c.in-Some.source) rest (contents l.store) held (stored said)
    (subst (λ ps. SoFar (capacity entry) c.args.format c.args.input.now (contents entry) l.turn l.count (front l.count l.entries) ps (contents l.store)) c.in-Some.ensures l.invariant.so_far)
    here in
    record {
      stay = stay_on l.invariant.stay c.read_record.ensures.stay;
      left = omega (arith, one_less, l.invariant.left);
      keeps = one_kept l.count c.args.entries.now l.entries said l.invariant.keeps;
      so_far = subst (λ xs. SoFar (capacity entry) c.args.format c.args.input.now (contents entry) c.in_ok-entry.next (l.count + 1) xs rest held) (sym (front_more l.count l.entries said within)) more;
    }

pub returns-then-is_complete-clause-read : goal.returns-then-is_complete-clause-read
returns-then-is_complete-clause-read c =
    let l = c.loop-source in
    let full : complete c.args.format l.turn ≡ true = search (rules, tests) in
    let within : l.count ≤ length l.entries = omega (arith, l.invariant.left, l.invariant.keeps.0, c.requires) in
    all_read (capacity c.args.store.now) c.args.format c.args.input.now (contents c.args.store.now) l.turn l.count c.args.entries.now l.entries within l.invariant.keeps (contents l.store)
    (subst (λ ps. SoFar (capacity c.args.store.now) c.args.format c.args.input.now (contents c.args.store.now) l.turn l.count (front l.count l.entries) ps (contents l.store)) c.in_default.ensures.0 l.invariant.so_far)
    full

pub returns-else-is_complete-clause-read : goal.returns-else-is_complete-clause-read
returns-else-is_complete-clause-read c =
    let l = c.loop-source in
    let wanting : complete c.args.format l.turn ≡ false = search (rules, tests) in
    let within : l.count ≤ length l.entries = omega (arith, l.invariant.left, l.invariant.keeps.0, c.requires) in
    one_absent (capacity c.args.store.now) c.args.format c.args.input.now (contents c.args.store.now) l.turn l.count c.args.entries.now l.entries within l.invariant.keeps (contents l.store)
    (subst (λ ps. SoFar (capacity c.args.store.now) c.args.format c.args.input.now (contents c.args.store.now) l.turn l.count (front l.count l.entries) ps (contents l.store)) c.in_default.ensures.0 l.invariant.so_far)
    wanting
