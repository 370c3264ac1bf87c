use Rattle.std.proofs.Common.{◌≡◌, ◌≤◌, ◌*◌, ◌++◌, length}
use Rattle.pq_numbers.specs.Bits.{unpacked}
use Rattle.pq_numbers.proofs.Bytes.{AreBytes}
use Rattle.pq_runs.proofs.whole.push_narrow.Given as goal

abbrev pub invariant-loop-left : goal.invariant-loop-left
invariant-loop-left l = record {
  are : AreBytes l.rest;
  enough : l.width * l.left ≤ 8 * length l.rest;
  so_far : l.numbers.items ++ unpacked l.width l.left l.rest ≡ l.fn.numbers.items ++ unpacked l.width l.count l.body;
}

abbrev pub decreases-loop-left : goal.decreases-loop-left
decreases-loop-left l = l.left
