use Rattle.std.proofs.Common.{arith}
use Rattle.read_column.proofs.Suited.{all-pushed}
use Rattle.read_column.proofs.Ways.{sound-begun}
use Rattle.read_column.proofs.queue.Queue.close.Goals as goal

pub invariant_of-result : goal.invariant_of-result
invariant_of-result g c =
    let begun = rw c.deref.ensures.value at c.in_ok-next.ensures.ok in (
      sound-begun c.self.inside.parts.items _ _ c.piece_rows-rows.result _ c.self.invariant.0.way begun.0 begun.1 (omega (arith, c.self.invariant.0.few, c.piece_rows-rows.ensures.few)),
      all-pushed g.L.LeafReader.width c.self.inside.values _ c.self.inside.whole.items _ c.self.inside.nested c.in_ok-next.ensures.width c.in_ok-push_back.ensures.items c.self.invariant.1,
    )
