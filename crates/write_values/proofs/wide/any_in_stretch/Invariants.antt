use Rattle.std.proofs.Common.{◌≡◌, ◌-◌, map}
use Rattle.std.specs.Prelude.{◌||◌}
use Rattle.write_places.specs.Places.{range}
use Rattle.write_values.specs.Decimals.{any_wide, form_physical}
use Rattle.write_values.specs.Wide.{number_at}
use Rattle.write_values.proofs.wide.any_in_stretch.Given as goal

abbrev pub invariant-loop-i : goal.invariant-loop-i
invariant-loop-i l = (l.found || any_wide (form_physical l.decimals.form) (map (number_at l.decimals) (range l.i (l.to - l.i)))) ≡ any_wide (form_physical l.decimals.form) (map (number_at l.decimals) (range l.from (l.to - l.from)))
