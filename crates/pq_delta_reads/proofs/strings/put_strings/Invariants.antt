use Rattle.std.proofs.Common.{◌≤◌, ◌*◌, [], take}
use Rattle.pq_delta_reads.specs.Blocks.{TakesStrings, signed}
use Rattle.pq_delta_reads.proofs.strings.put_strings.Given as goal

abbrev pub invariant-loop-i : goal.invariant-loop-i
invariant-loop-i l = record {
  low : l.at ≤ 36 * l.i;
  takes : TakesStrings (signed (take l.i l.lengths)) l.bytes l.rest [] (take l.at l.places);
}
