use Rattle.std.proofs.Common.{◌*◌, take}
use Rattle.std.specs.Int.{w32}
use Rattle.pq_files.specs.Plain.{InARow}
use Rattle.pq_tree.specs.Physical.{int32}
use Rattle.pq_delta_reads.specs.Blocks.{values_of}
use Rattle.pq_delta_reads.proofs.numbers.put_low.Given as goal

abbrev pub invariant-loop-i : goal.invariant-loop-i
invariant-loop-i l = InARow int32 (take (4 * l.i) l.places) (values_of w32 (take l.i l.numbers))
