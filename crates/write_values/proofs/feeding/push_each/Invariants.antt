use Rattle.std.proofs.Common.{◌-◌, map}
use Rattle.write_places.specs.Places.{range}
use Rattle.write_values.specs.Feeding.{FeedsRow}
use Rattle.write_values.proofs.feeding.push_each.Given as goal

abbrev pub invariant-loop-i : goal.invariant-loop-i
invariant-loop-i g l = FeedsRow g.D.DeltaValues.width g.D.DeltaValues.physical l.fn.out.items l.fn.encoder l.out.items l.encoder (map (g.D.DeltaValues.at l.values) (range l.from (l.i - l.from)))
