use Rattle.std.proofs.Common.{◌≤◌, ◌-◌, map}
use Rattle.read_walk.specs.Values.{Decodes}
use Rattle.read_leaf.specs.Fixed.{stored_fixed, value_slots}
use Rattle.read_leaf.proofs.fixed.FixedDecoderNestedDecoder.push_valid.Given as goal

abbrev pub decreases-loop-left : goal.decreases-loop-left
decreases-loop-left g l = l.left

abbrev pub invariant-loop-left : goal.invariant-loop-left
invariant-loop-left g l = record {
  most : l.left ≤ l.count;
  so_far : Decodes (l.count - l.left) (stored_fixed g.T.FixedValue.loaded l.self.size l.initial.state.values.now) (stored_fixed g.T.FixedValue.loaded l.self.size l.state.values.now) (value_slots (map g.T.FixedValue.held l.initial.decoded.0) l.initial.decoded.1) (value_slots (map g.T.FixedValue.held l.decoded.0) l.decoded.1);
}
