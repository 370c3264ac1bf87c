use Rattle.std.proofs.Common.{arith, sym, ◌∙◌, ◌≡◌, true}
use Rattle.read_column.specs.Queues.{ends_in_leaf}
use Rattle.read_column.proofs.Suited.{all-of-none}
use Rattle.read_column.proofs.Ways.{sound-begun}
use Rattle.read_column.proofs.queue.Queue.new.Goals as goal

pub invariant_of-result : goal.invariant_of-result
invariant_of-result g c =
    let begun = rw (c.deref-2.ensures.value) at c.in_ok-nested.ensures.ok in
    let way : ends_in_leaf c.args.parts.items ≡ true = rw (← c.deref.ensures.value) (sym c.is_way.ensures ∙ c.if-not-is_way.false) in
    (sound-begun c.args.parts.items _ _ c.piece_rows-rows.result _ way begun.0 begun.1 (omega (arith, c.piece_rows-rows.ensures.few, c.ranges.num_rows)), all-of-none g.L.LeafReader.width _ _ c.new.ensures.items)
