use Rattle.std.proofs.Common.{length, subst, arith}
use Rattle.levels.specs.Nested.{parts_of}
use Rattle.write_places.specs.There.{TellThere}
use Rattle.write_places.proofs.Reached.{all_leaves}
use Rattle.write_places.proofs.reach.reach_leaves.Goals as goal

pub returns-in-Nowhere : goal.returns-in-Nowhere
returns-in-Nowhere c =
    let r = c.requires in
    let all = subst (TellThere (parts_of c.args.parts.now)) c.in-Nowhere.is r.tell in
    all_leaves (parts_of c.args.parts.now) (length c.args.parts.now) c.args.place c.args.to c.args.to r.leaf r.room (λ i low high. all i) r.some (omega arith) r.within
