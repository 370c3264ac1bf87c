use Rattle.std.proofs.Common.{◌<◌, ◌^◌, length, Some}
use Rattle.columns_slots.specs.Bytes.{pieces_values}
use Rattle.write_places.specs.Places.{picked}
use Rattle.page_statistics.proofs.Places.{IsPartly}
use Rattle.write_values.specs.FirstBytes.{AreFronts, places_of}
use Rattle.write_values.specs.Numbers.{at_place}
use Rattle.write_values.proofs.fronts.with_picked.Given as goal

abbrev pub decreases-loop-left : goal.decreases-loop-left
decreases-loop-left g l = length (picked l.left l.from l.count)

abbrev pub invariant-loop-left : goal.invariant-loop-left
invariant-loop-left g l = record {
  low : l.left < 2 ^ l.count;
  fronts : AreFronts l.offsets l.all l.fronts;
  partly : IsPartly (at_place (pieces_values l.offsets l.all)) (Some l.fn.extremes) (Some (places_of l.fronts)) (picked l.bits l.from l.count) (picked l.left l.from l.count);
}
