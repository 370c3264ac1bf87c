use Rattle.std.proofs.Common.{◌≤◌, ◌-◌, ◌++◌, List, ℕ, Some}
use Rattle.columns_slots.specs.Bytes.{pieces_values}
use Rattle.write_places.specs.Places.{range}
use Rattle.page_statistics.specs.Extremes.{AreExtremes}
use Rattle.write_values.specs.FirstBytes.{AreFronts, places_of}
use Rattle.write_values.specs.Numbers.{at_place}
use Rattle.write_values.proofs.fronts.with_strings.Given as goal

abbrev pub invariant-loop-place : goal.invariant-loop-place
invariant-loop-place g l = record {
  fronts : AreFronts l.offsets l.all l.fronts;
  from : l.from ≤ l.place;
  are : (places : List ℕ) → AreExtremes (at_place (pieces_values l.offsets l.all)) places (Some l.fn.extremes) → AreExtremes (at_place (pieces_values l.offsets l.all)) (places ++ range l.from (l.place - l.from)) (Some (places_of l.fronts));
}
