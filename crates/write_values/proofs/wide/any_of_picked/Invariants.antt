use Rattle.std.proofs.Common.{◌≡◌, ◌<◌, ◌^◌, length, map}
use Rattle.std.specs.Prelude.{◌||◌}
use Rattle.write_places.specs.Places.{picked}
use Rattle.write_values.specs.Decimals.{any_wide, form_physical}
use Rattle.write_values.specs.Wide.{number_at}
use Rattle.write_values.proofs.wide.any_of_picked.Given as goal

abbrev pub decreases-loop-left : goal.decreases-loop-left
decreases-loop-left l = length (picked l.left l.from l.count)

abbrev pub invariant-loop-left : goal.invariant-loop-left
invariant-loop-left l = record {
  low : l.left < 2 ^ l.count;
  found : (l.found || any_wide (form_physical l.decimals.form) (map (number_at l.decimals) (picked l.left l.from l.count))) ≡ any_wide (form_physical l.decimals.form) (map (number_at l.decimals) (picked l.bits l.from l.count));
}
