use Rattle.pq_numbers.specs.Bits.{unpacked}
use Rattle.pq_numbers.proofs.Bytes.{AreBytes}
use Rattle.read_column.proofs.Gathering.{SoFar}
use Rattle.read_column.proofs.lookup.push_packed.Given as goal

abbrev pub invariant-loop-left : goal.invariant-loop-left
invariant-loop-left l = record {
  are : AreBytes l.rest;
  so_far : SoFar l.entries (unpacked l.width l.count l.body) l.fn.values.items (unpacked l.width l.left l.rest) l.values.items;
}

abbrev pub decreases-loop-left : goal.decreases-loop-left
decreases-loop-left l = l.left
