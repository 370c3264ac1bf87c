use Rattle.std.proofs.Common.{◌<◌, ◌^◌, length, map}
use Rattle.write_places.specs.Places.{picked}
use Rattle.write_values.proofs.Picked.{IsPartly}
use Rattle.write_values.proofs.fixed.push_picked.Given as goal

abbrev pub decreases-loop-left : goal.decreases-loop-left
decreases-loop-left g l = length (picked l.left l.from l.count)

abbrev pub invariant-loop-left : goal.invariant-loop-left
invariant-loop-left g l = record {
  low : l.left < 2 ^ l.count;
  row : IsPartly (g.V.FixedValues.physical l.values) l.fn.out.items l.out.items (map (g.V.FixedValues.at l.values) (picked l.bits l.from l.count)) (map (g.V.FixedValues.at l.values) (picked l.left l.from l.count));
}
