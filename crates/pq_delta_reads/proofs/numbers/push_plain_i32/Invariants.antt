use Rattle.std.specs.Int.{w32}
use Rattle.pq_tree.specs.Physical.{int32}
use Rattle.pq_delta_reads.proofs.Filling.{Filling}
use Rattle.pq_delta_reads.proofs.numbers.push_plain_i32.Given as goal

abbrev pub invariant-loop-item : goal.invariant-loop-item
invariant-loop-item l = Filling w32 int32 l.fn.out.items l.out.items l.initial.decoder.items l.decoder.items

abbrev pub decreases-loop-item : goal.decreases-loop-item
decreases-loop-item l = l.decoder.left
