use Rattle.std.proofs.Common.{arith}
use Rattle.pq_deltas.proofs.DeltaSteps.{going_flush}
use Rattle.pq_deltas.proofs.delta_encode.make_room.Goals as goal

pub returns-in_ok-push_block-clause-ok : goal.returns-in_ok-push_block-clause-ok
returns-in_ok-push_block-clause-ok c =
    let e = rw c.as_slice.ensures at c.in_ok-push_block.ensures.ok in
    λ v start latest zs g. going_flush v start c.args.out.now.items c.push_block.new.out.items e.0 c.args.waiting.now c.clear.new.self zs latest (omega arith) c.clear.ensures e.1 e.2 g
