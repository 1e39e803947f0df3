use Rattle.std.proofs.Common.{sym, refl, ap, ◌∙◌, subst, rules}
use Rattle.verdicts.specs.Weighing.{Valued, meet_at}
use Rattle.verdicts.proofs.Following.{confirms}
use Rattle.verdicts.proofs.Meeting.{member_at, valued, weighs}
use Rattle.verdicts.proofs.weigh.weigh.Goals as goal

pub meet_of_places-meet-requires : goal.meet_of_places-meet-requires
meet_of_places-meet-requires g c =
    let algebra = c.args.algebra.now in
    let m = g.A.Algebra.means algebra in
    let stored = c.if-not-is_stored.ensures.0 refl in
    subst (Valued m c.evaluate.new.values) (sym c.premises.ensures)
    (valued m (g.A.Algebra.lawful algebra) _ _ _ _ c.in_ok-evaluate.ensures _ stored.premises)

pub is_below-requires : goal.is_below-requires
is_below-requires g c =
    let algebra = c.args.algebra.now in
    let stored = c.if-not-is_stored.ensures.0 refl in
    let meet_in = c.meet_of_places-meet.ensures.member in
    let conclusion_in =
    member_at (g.A.Algebra.means algebra) (g.A.Algebra.lawful algebra) _ _ _ _ c.in_ok-evaluate.ensures _ stored.conclusion in
    search rules

pub returns : goal.returns
returns g c =
    let algebra = c.args.algebra.now in
    let m = g.A.Algebra.means algebra in
    let lawful = g.A.Algebra.lawful algebra in
    let stored = c.if-not-is_stored.ensures.0 refl in
    let evaluated = c.in_ok-evaluate.ensures in
    let weighed =
    weighs m lawful _ _ _ _ evaluated c.args.sequent.now stored c.meet_of_places-meet.result c.is_below.result
    (c.meet_of_places-meet.ensures.meet ∙ ap (meet_at m c.evaluate.new.values) c.premises.ensures) c.is_below.ensures in
    record {
      exact = (stored, evaluated, weighed);
      follows = confirms m lawful _ evaluated.1 _ _ _ weighed c.args.sequent.now.mode;
    }
