use Rattle.std.proofs.Common.{◌≡◌, ◌≤◌, ◌<◌, ◌+◌, ◌-◌, ◌*◌, ◌^◌, [], length, map, take}
use Rattle.shredding.specs.Slot.{number}
use Rattle.pq_tree.specs.Views.{physical_view}
use Rattle.write_places.specs.Places.{picked}
use Rattle.write_values.specs.Numbers.{at_place}
use Rattle.write_values.proofs.Picked.{IsPartly}
use Rattle.write_values.proofs.numbers.put_some.Given as goal

abbrev pub decreases-loop-left : goal.decreases-loop-left
decreases-loop-left g l = l.from + l.count - l.place

abbrev pub invariant-loop-left : goal.invariant-loop-left
invariant-loop-left g l = record {
  after : l.from ≤ l.place;
  before : l.place ≤ l.from + l.count;
  low : l.left < 2 ^ (l.from + l.count - l.place);
  room : l.at + (l.from + l.count - l.place + 8) * g.P.PlainNumber.byte_count ≤ length l.places;
  len : length l.places ≡ length l.fn.places;
  row : IsPartly (physical_view g.P.ParquetNativeType.physical) [] (take l.at l.places) (map (at_place (map (λ x. number (g.T.StoredAs.stored_number x)) l.values)) (picked l.bits l.from l.count)) (map (at_place (map (λ x. number (g.T.StoredAs.stored_number x)) l.values)) (picked l.left l.place (l.from + l.count - l.place)));
}
