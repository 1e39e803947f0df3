use Rattle.std.proofs.Common.{◌+◌, ℕ, List, refl, arith}
use mathlib.Core.Logic.{∥∥₁_map}
use native.Mathlib.Decide.{dec_lt}
use Rattle.fitch.specs.Checks.{Accepted}
use Rattle.fitch.specs.History.{History}
use Rattle.fitch.specs.declared.rule.Rule.{Rule}
use Rattle.ledger.proofs.Recording.{settled}
use Rattle.derivations.specs.Derived.{sheet_in, Derived, checks_of_step}
use Rattle.derivations.specs.Sheets.{HasRoom}
use Rattle.derivations.specs.declared.open.Open.{Open}
use Rattle.derivations.proofs.Sounding.{derives_sound}
use Rattle.derivations.proofs.Writing.{write_leaves, still_fits, stepped, room_left}
use Rattle.derivations.proofs.open.Open.step.Goals as goal

-- where the checks are passed, a record is left
has_room : (o : Open) (f : ℕ) (r : Rule) (is : List ℕ) → ((h : History) → Derived o h → Accepted (checks_of_step o h f r is)) → HasRoom (sheet_in o)
has_room o f r is accepted = (settled (dec_lt _ _) o.recorded (λ d. (at d.0 d.1).0), settled (dec_lt _ _) o.recorded (λ d. (at d.0 d.1).1))
  where
    at : (h : History) → Derived o h → HasRoom (sheet_in o)
    at h g = room_left g.recorded (accepted h g).1.1.1.1.1.1.0

pub invariant_of-self : goal.invariant_of-self
invariant_of-self c =
    let o = c.args.self.now in
    let room = has_room o c.args.formula c.args.rule c.args.citations.now c.in_ok-check.ensures in
    record {
      small = omega (arith, room.0);
      fits = still_fits (o.count + 1) o.count o.lines.now _ (omega (arith, room.1));
      few = o.few;
      recorded = ∥∥₁_map o.recorded
          (λ r. (let a = c.in_ok-check.ensures r.0 r.1 in (_, stepped o c.args.formula _ c.args.rule _ c.args.citations.now r.0 r.1 a.0 room c.padded.ensures c.innermost-inside.ensures c.extend.ensures a.1.1.1.1.1.0)));
    }

pub returns-clause-exact : goal.returns-clause-exact
returns-clause-exact c h g =
    let o = c.args.self.now in
    let room = has_room o c.args.formula c.args.rule c.args.citations.now c.in_ok-check.ensures in
    let a = c.in_ok-check.ensures h g in (
      a,
      omega (arith, g.recorded.counted),
      stepped o c.args.formula _ c.args.rule _ c.args.citations.now h g a.0 room c.padded.ensures c.innermost-inside.ensures c.extend.ensures a.1.1.1.1.1.0,
    )

pub returns-clause-sound : goal.returns-clause-sound
returns-clause-sound c h x = derives_sound x

pub returns-clause-leaves : goal.returns-clause-leaves
returns-clause-leaves c = record { premises = refl; sheet = write_leaves (sheet_in c.args.self.now) _ _ (record { store = refl; mode = refl; slice = refl; count = refl; lines = refl }) }
