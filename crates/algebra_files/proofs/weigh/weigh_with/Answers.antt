use Rattle.std.proofs.Common.{◌≡◌, length, ◌^◌, ◌<◌, Some, None, Err, refl, ap, ◌∙◌, arith}
use Rattle.std.specs.Option.{option_map}
use Rattle.std.proofs.lemmas.Grind.{common_steps}
use Rattle.answers.specs.declared.unanswered.Unanswered.TheVariants.{Faulty}
use Rattle.formulas.specs.Stores.{contents}
use Rattle.frames.specs.Frames.{frame_means}
use Rattle.heyting.specs.Layers.{product}
use Rattle.algebra_files.specs.Faults.{record_at, second_record}
use Rattle.entries.specs.AlgebraFiles.{base_said}
use Rattle.algebra_files.specs.Cutting.{base_of, file_of}
use Rattle.algebra_files.proofs.Standing.{first_wrong, second_wrong, too_large, alone, paired, alone_record, paired_record, standing}
use Rattle.algebra_files.proofs.weigh.weigh_with.Goals as goal

pub returns-in_err-frame : goal.returns-in_err-frame
returns-in_err-frame c =
    let refused : c.from_residual.result ≡ Err (Faulty c.in_err-frame.field-0.0) = grind (arith, common_steps) in
    rw refused (first_wrong c.args.first (file_of c.args.file.now) (contents c.args.store.now) c.args.sequent.now c.args.buffer.now c.in_err-frame.field-0.0 c.in_err-frame.ensures, refl)

pub returns-in_default : goal.returns-in_default
returns-in_default c =
    let f = file_of c.args.file.now in
    let m = frame_means c.in_ok-frame.frame in
    let none : f.second ≡ None = ap (option_map base_of) c.in_default.is in
    let here : c.saturating_add-number.result ≡ second_record c.args.first f = c.saturating_add-number.ensures ∙ ap (record_at c.args.first) c.count.ensures in
    let fits : c.saturating_add-number.result < 2 ^ 64 = omega (arith, c.saturating_add-number.ensures) in
    let fs = contents c.args.store.now in
    let s = c.args.sequent.now in
    let before = c.args.buffer.now in
    standing c.args.first f fs s before m m c.saturating_add-number.result c.weigh_over.new.buffer c.weigh_over.result
    (alone c.args.first f fs s before m c.in_ok-frame.ensures none)
    (alone_record c.args.first f fs s before c.saturating_add-number.result none here fits) refl c.weigh_over.ensures

pub returns-in_err-other : goal.returns-in_err-other
returns-in_err-other c =
    let refused : c.from_residual-in_err-other.result ≡ Err (Faulty c.in_err-other.field-0.0) = grind (arith, common_steps) in
    let f = file_of c.args.file.now in
    let some : f.second ≡ Some (base_of c.in-Some.second) = ap (option_map base_of) c.in-Some.is in
    let here : c.saturating_add-number.result ≡ second_record c.args.first f = c.saturating_add-number.ensures ∙ ap (record_at c.args.first) c.count.ensures in
    rw refused (
      second_wrong c.args.first f (contents c.args.store.now) c.args.sequent.now c.args.buffer.now (frame_means c.in_ok-frame.frame) c.in_ok-frame.ensures (base_of c.in-Some.second) c.saturating_add-number.result c.in_err-other.field-0.0 some here
          c.in_err-other.ensures,
      refl,
    )

pub returns-in-Ok : goal.returns-in-Ok
returns-in-Ok c =
    let f = file_of c.args.file.now in
    let b = base_of c.in-Some.second in
    let m = frame_means c.in_ok-frame.frame in
    let k = frame_means c.in_ok-other.other in
    let p = c.in-Ok.product in
    let some : f.second ≡ Some b = ap (option_map base_of) c.in-Some.is in
    let here : c.saturating_add-number.result ≡ second_record c.args.first f = c.saturating_add-number.ensures ∙ ap (record_at c.args.first) c.count.ensures in
    let next : c.saturating_add.result ≡ record_at c.saturating_add-number.result (length (base_said b)) = c.saturating_add.ensures ∙ ap (record_at c.saturating_add-number.result) c.count-in-Ok.ensures in
    let same : product (frame_means p.first) (frame_means p.second) ≡ product m k = cc (c.in-Ok.ensures.0, c.in-Ok.ensures.1) in
    let fs = contents c.args.store.now in
    let s = c.args.sequent.now in
    let before = c.args.buffer.now in
    standing c.args.first f fs s before (product m k) (product (frame_means p.first) (frame_means p.second)) c.saturating_add.result c.weigh_over-in-Ok.new.buffer c.weigh_over-in-Ok.result
    (paired c.args.first f fs s before m c.in_ok-frame.ensures b k some c.in_ok-other.ensures c.in-Ok.ensures.2)
    (paired_record c.args.first f fs s before b c.saturating_add-number.result c.saturating_add.result some here next) same c.weigh_over-in-Ok.ensures

pub returns-in-Err : goal.returns-in-Err
returns-in-Err c =
    let f = file_of c.args.file.now in
    let b = base_of c.in-Some.second in
    let some : f.second ≡ Some b = ap (option_map base_of) c.in-Some.is in
    let here : c.saturating_add-number.result ≡ second_record c.args.first f = c.saturating_add-number.ensures ∙ ap (record_at c.args.first) c.count.ensures in (
      too_large c.args.first f (contents c.args.store.now) c.args.sequent.now c.args.buffer.now (frame_means c.in_ok-frame.frame) c.in_ok-frame.ensures b (frame_means c.in_ok-other.other)
          c.saturating_add-number.result c.at.result some c.in_ok-other.ensures c.in-Err.ensures.3 here c.at.ensures,
      refl,
    )
