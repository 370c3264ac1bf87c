use Rattle.std.proofs.Common.{◌≡◌, ◌≤◌, ◌-◌}
use Rattle.read_leaf.specs.Fixed.{stored_fixed}
use Rattle.read_leaf.specs.FixedBytes.{chunk_slots, loaded_bytes}
use Rattle.read_leaf.proofs.BitRuns.{AreDecoded}
use Rattle.read_leaf.proofs.fixed_bytes.FixedBytesDecoderNestedDecoder.push_mixed.Given as goal

abbrev pub decreases-loop-left : goal.decreases-loop-left
decreases-loop-left l = l.left

abbrev pub invariant-loop-left : goal.invariant-loop-left
invariant-loop-left l = record {
  most : l.left ≤ l.count;
  decoded : AreDecoded l.valid (l.count - l.left) l.bits (stored_fixed loaded_bytes l.self.size l.initial.state.values.now) (stored_fixed loaded_bytes l.self.size l.state.values.now) (chunk_slots l.initial.decoded.0 l.initial.decoded.1.0 l.initial.decoded.1.1) (chunk_slots l.decoded.0 l.decoded.1.0 l.decoded.1.1);
  suits : l.decoded.0 ≡ l.self.size;
}
