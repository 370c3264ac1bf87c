-- The worked cut.
use Rattle.std.proofs.Common.{refl, arith}
use Rattle.shredding.specs.Parts.{slots_from, slot_in, path_slots}
use Rattle.levels.specs.InBounds.{bounded_slot, bounded_slots}
use Rattle.nested_slice.specs.Examples.{AsWorked}

pub worked : AsWorked
unfolding slots_from slot_in path_slots bounded_slot bounded_slots
worked =
    record {
      whole_in_bounds = record { some = omega arith; fits = ((refl, omega arith, omega arith), ((refl, refl, omega arith), ((tt, omega arith, omega arith), ((refl, refl), tt)))) };
      whole_is_no_path = λ h. omega (arith, h.fits.1.1.0.1);
      whole_slots = refl;
      cut_is = refl;
      leaf_is = refl;
      part_is_path = record { some = omega arith; fits = ((refl, refl, omega arith), ((refl, refl, omega arith), ((tt, refl, omega arith), ((refl, refl), tt)))) };
      part_out_of_bounds = λ h. omega (arith, h.fits.0.1);
      part_slots = refl;
      cut_to_one = refl;
      one_slots = refl;
      cut_to_none = refl;
      no_slots = refl;
      cut_to_all = refl;
    }
