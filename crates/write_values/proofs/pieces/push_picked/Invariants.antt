use Rattle.std.proofs.Common.{◌≡◌, ◌<◌, ◌^◌, ◌++◌, length, map}
use Rattle.std.specs.Prelude.{flat_map}
use Rattle.columns_slots.specs.Bytes.{pieces_values}
use Rattle.write_places.specs.Places.{picked}
use Rattle.write_values.specs.Feeding.{text_of}
use Rattle.write_values.specs.Numbers.{at_place}
use Rattle.write_values.proofs.pieces.push_picked.Given as goal

abbrev pub decreases-loop-left : goal.decreases-loop-left
decreases-loop-left g l = length (picked l.left l.from l.count)

abbrev pub invariant-loop-left : goal.invariant-loop-left
invariant-loop-left g l = record {
  low : l.left < 2 ^ l.count;
  joined : l.out.items ++ flat_map text_of (map (at_place (pieces_values l.offsets l.all)) (picked l.left l.from l.count)) ≡ l.fn.out.items ++ flat_map text_of (map (at_place (pieces_values l.offsets l.all)) (picked l.bits l.from l.count));
}
