use Rattle.std.proofs.Common.{◌≤◌, ◌-◌}
use Rattle.read_walk.specs.Values.{Decodes}
use Rattle.read_leaf.specs.Strings.{stored_strings, string_slots}
use Rattle.read_leaf.proofs.strings.StringDecoderNestedDecoder.push_valid.Given as goal

abbrev pub decreases-loop-left : goal.decreases-loop-left
decreases-loop-left g l = l.left

abbrev pub invariant-loop-left : goal.invariant-loop-left
invariant-loop-left g l = record {
  most : l.left ≤ l.count;
  so_far : Decodes (l.count - l.left) (stored_strings g.K.StringKind.allows l.initial.state.values.now) (stored_strings g.K.StringKind.allows l.state.values.now) (string_slots l.initial.decoded.0 l.initial.decoded.1) (string_slots l.decoded.0 l.decoded.1);
}
