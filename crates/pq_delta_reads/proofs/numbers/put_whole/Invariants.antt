use Rattle.std.proofs.Common.{◌*◌, take}
use Rattle.std.specs.Int.{w64}
use Rattle.pq_files.specs.Plain.{InARow}
use Rattle.pq_tree.specs.Physical.{int64}
use Rattle.pq_delta_reads.specs.Blocks.{values_of}
use Rattle.pq_delta_reads.proofs.numbers.put_whole.Given as goal

abbrev pub invariant-loop-i : goal.invariant-loop-i
invariant-loop-i l = InARow int64 (take (8 * l.i) l.places) (values_of w64 (take l.i l.numbers))
