use Rattle.std.proofs.Common.{◌-◌}
use Rattle.columns_slots.specs.Tree.{leaf_array}
use Rattle.pq_tree.specs.Physical.{fixed}
use Rattle.write_places.specs.Places.{range}
use Rattle.write_values.specs.Fixed.{strings_in, width_in}
use Rattle.write_values.specs.Numbers.{at_place}
use Rattle.write_values.specs.Stored.{stored_at}
use Rattle.write_values.proofs.FixedPlaces.{run_pushed, strings_stored}
use Rattle.write_values.proofs.NumberPlaces.{map-alike}
use Rattle.write_values.proofs.fixed.FixedStringsLeafValues.push_plain.Goals as goal

pub returns-clause-ok : goal.returns-clause-ok
returns-clause-ok c =
    let a = c.args.self.now.array.now in
    let p = fixed (width_in a.0) in
    let ss = strings_in a.0 a.1.0 in
    run_pushed p _ _ c.run.result.now _ _ c.in_ok-extend_from_slice.ensures.items c.run.ensures
    (map-alike (at_place ss) (stored_at (leaf_array a.0 ss a.1.1) p) (strings_stored a.0 a.1.0 a.1.1 (width_in a.0)) (range c.args.from (c.args.to - c.args.from)))
