use Rattle.std.proofs.Common.{◌<◌, ◌^◌, length, map}
use Rattle.write_places.specs.Places.{picked}
use Rattle.write_values.proofs.Fed.{IsPartlyFed}
use Rattle.write_values.proofs.feeding.push_picked.Given as goal

abbrev pub decreases-loop-left : goal.decreases-loop-left
decreases-loop-left g l = length (picked l.left l.from l.count)

abbrev pub invariant-loop-left : goal.invariant-loop-left
invariant-loop-left g l = record {
  low : l.left < 2 ^ l.count;
  row : IsPartlyFed g.D.DeltaValues.width g.D.DeltaValues.physical l.fn.out.items l.fn.encoder l.out.items l.encoder (map (g.D.DeltaValues.at l.values) (picked l.bits l.from l.count)) (map (g.D.DeltaValues.at l.values) (picked l.left l.from l.count));
}
