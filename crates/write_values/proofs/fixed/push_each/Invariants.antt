use Rattle.std.proofs.Common.{◌-◌, map}
use Rattle.write_places.specs.Places.{range}
use Rattle.write_values.specs.Rows.{AppendsRow}
use Rattle.write_values.proofs.fixed.push_each.Given as goal

abbrev pub invariant-loop-i : goal.invariant-loop-i
invariant-loop-i g l = AppendsRow (g.V.FixedValues.physical l.values) l.fn.out.items l.out.items (map (g.V.FixedValues.at l.values) (range l.from (l.i - l.from)))
