use Rattle.std.proofs.Common.{◌≤◌, length, map}
use Rattle.read_leaf.specs.Fixed.{stored_fixed}
use Rattle.read_leaf.proofs.MixedValues.{AreTaken}
use Rattle.read_leaf.proofs.fixed.take_slots.Given as goal

abbrev pub invariant-loop-i : goal.invariant-loop-i
invariant-loop-i g l = record {
  is : AreTaken (stored_fixed g.T.FixedValue.loaded l.size) l.valid l.i l.bits l.bytes l.rest (map g.T.FixedValue.held l.initial.values.items) (map g.T.FixedValue.held l.values.items);
  kept : length l.initial.values.items ≤ length l.values.items;
}
