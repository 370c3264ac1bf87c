use Rattle.std.proofs.Common.{◌-◌, ℕ, List, subst, arith}
use Rattle.levels.specs.Nested.{parts_of}
use Rattle.write_places.specs.Places.{gather, slot_places}
use Rattle.write_places.specs.Reach.{reach_end}
use Rattle.write_places.proofs.Gather.{gather-split}
use Rattle.write_places.proofs.walk.reach_for.Goals as goal

pub returns-clause-accepted : goal.returns-clause-accepted
returns-clause-accepted g c =
    let e = c.reach_at.ensures in
    let piece = slot_places (parts_of c.args.parts.now) in
    let end = reach_end c.reach_at.result in
    let here = gather piece c.args.place (end - c.args.place) in
    let later = gather piece end (c.args.to - end) in
    let split = gather-split piece c.args.place end c.args.to (omega (arith, e.after)) e.before in
    let first = g.met.T.Taker.front c.args.taker.now here later (subst (λ (ps : List ℕ). g.T.Taker.accepts c.args.taker.now ps) split c.requires.accepted) in
    subst (λ (ps : List ℕ). g.T.Taker.accepts c.args.taker.now ps) e.places first
