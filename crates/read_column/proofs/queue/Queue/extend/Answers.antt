use Rattle.std.proofs.Common.{◌-◌, subst}
use Rattle.read_laws.specs.State.{count}
use Rattle.read_walk.specs.Walk.{Refuses}
use Rattle.read_column.specs.Queues.{Waiting}
use Rattle.read_column.proofs.Suited.{all-kept}
use Rattle.read_column.proofs.Ways.{sound-extended}
use Rattle.read_column.proofs.queue.Queue.extend.Goals as goal

pub invariant_of-result : goal.invariant_of-result
invariant_of-result g c = (sound-extended c.self.inside.parts.items c.self.inside.rows c.self.inside.left _ _ _ _ _ _ _ _ c.self.invariant.0 (rw c.len.ensures at c.in-Ok.ensures.ok), all-kept g.L.LeafReader.width _ _ c.self.inside.whole.items c.extend_leaf.ensures.width c.self.invariant.1)

pub returns-in-Err-clause-err : goal.returns-in-Err-clause-err
returns-in-Err-clause-err g c =
    subst (λ (q : Waiting). Refuses g.L.LeafReader.byte_limit (q.rows - count q.state) c.args.page.now (g.L.LeafReader.stored c.args.leaf.now c.args.bytes.now.values.now c.args.bytes.now.bit) q.state q.leaf c.in-Err.error) c.self.view_is (rw c.len.ensures at c.in-Err.ensures.err)
