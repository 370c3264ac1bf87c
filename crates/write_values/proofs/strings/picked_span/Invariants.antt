use Rattle.std.proofs.Common.{◌≡◌, ◌<◌, ◌+◌, ◌*◌, ◌^◌, length, map}
use Rattle.columns_slots.specs.Bytes.{pieces_values}
use Rattle.pq_tree.specs.Physical.{byte_array}
use Rattle.pq_files.specs.Layout.{plain_length}
use Rattle.write_places.specs.Places.{picked}
use Rattle.write_values.specs.Numbers.{at_place}
use Rattle.write_values.proofs.strings.picked_span.Given as goal

abbrev pub decreases-loop-left : goal.decreases-loop-left
decreases-loop-left g l = length (picked l.left l.from l.count)

abbrev pub invariant-loop-left : goal.invariant-loop-left
invariant-loop-left g l = record {
  low : l.left < 2 ^ l.count;
  sum : l.span + plain_length byte_array (map (at_place (pieces_values l.offsets l.all)) (picked l.left l.from l.count)) + 4 * length (picked l.bits l.from l.count) ≡ plain_length byte_array (map (at_place (pieces_values l.offsets l.all)) (picked l.bits l.from l.count)) + 4 * length (picked l.left l.from l.count);
}
