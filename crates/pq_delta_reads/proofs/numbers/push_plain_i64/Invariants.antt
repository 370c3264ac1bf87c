use Rattle.std.specs.Int.{w64}
use Rattle.pq_tree.specs.Physical.{int64}
use Rattle.pq_delta_reads.proofs.Filling.{Filling}
use Rattle.pq_delta_reads.proofs.numbers.push_plain_i64.Given as goal

abbrev pub invariant-loop-item : goal.invariant-loop-item
invariant-loop-item l = Filling w64 int64 l.fn.out.items l.out.items l.initial.decoder.items l.decoder.items

abbrev pub decreases-loop-item : goal.decreases-loop-item
decreases-loop-item l = l.decoder.left
