use Rattle.std.proofs.Common.{◌≡◌, to_z, of_z}
use Rattle.std.proofs.lemmas.Int.{to_z-of_z}
use Rattle.std.specs.Int.{w64}
use Rattle.pq_deltas.proofs.DeltaSteps.{going_more}
use Rattle.pq_deltas.proofs.delta_encode.push_difference.Goals as goal

pub returns-clause-ok : goal.returns-clause-ok
returns-clause-ok c =
    let same : to_z w64 (of_z w64 c.args.difference) ≡ c.args.difference = to_z-of_z w64 c.args.difference c.ranges.difference in
    λ v start latest value zs fits e g. rw (c.push.ensures, same) (going_more v start c.make_room.new.out.items c.make_room.new.waiting zs latest value c.args.difference fits e (c.in_ok-make_room.ensures.ok v start latest zs g))
