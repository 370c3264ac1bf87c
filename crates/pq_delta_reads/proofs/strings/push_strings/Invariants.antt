use Rattle.std.proofs.Common.{take}
use Rattle.pq_delta_reads.specs.Blocks.{TakesStrings, signed}
use Rattle.pq_delta_reads.proofs.strings.push_strings.Given as goal

abbrev pub invariant-loop-i : goal.invariant-loop-i
invariant-loop-i l = TakesStrings (signed (take l.i l.lengths)) l.bytes l.rest l.fn.out.items l.out.items
