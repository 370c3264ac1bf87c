use Rattle.std.proofs.Common.{◌≤◌, ◌-◌, map}
use Rattle.columns_slots.specs.Bytes.{pieces_values}
use Rattle.pq_tree.specs.Physical.{byte_array}
use Rattle.write_places.specs.Places.{range}
use Rattle.write_values.specs.Numbers.{at_place}
use Rattle.write_values.specs.Rows.{AppendsRow}
use Rattle.write_values.proofs.strings.push_strings.Given as goal

abbrev pub decreases-loop-at : goal.decreases-loop-at
decreases-loop-at g l = l.to - l.at

abbrev pub invariant-loop-at : goal.invariant-loop-at
invariant-loop-at g l = record {
  after : l.from ≤ l.at;
  within : l.at ≤ l.to;
  row : AppendsRow byte_array l.fn.out.items l.out.items (map (at_place (pieces_values l.offsets l.all)) (range l.from (l.at - l.from)));
}
