use Rattle.std.proofs.Common.{◌≡◌, ◌+◌, ◌^◌, ◌≤◌, take}
use Rattle.pq_files.specs.Stored.{big_endian}
use Rattle.read_leaf.proofs.fixed_values.unsigned_number.Given as goal

abbrev pub invariant-loop-i : goal.invariant-loop-i
invariant-loop-i l = record {
  number : l.number ≡ big_endian (take l.i l.bytes);
  ones : l.greatest + 1 ≡ 256 ^ l.i;
  below : l.number ≤ l.greatest;
}
