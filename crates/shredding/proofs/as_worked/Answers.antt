use Rattle.shredding.specs.Shred.{shred}
use Rattle.shredding.specs.Parts.{slot_in, slots_from, path_slots}
use Rattle.shredding.proofs.Worked.{rows, ranges}
use Rattle.std.proofs.Common.{refl, arith}
use Rattle.shredding.proofs.as_worked.Goals as goal

pub returns : goal.returns
unfolding shred slot_in slots_from path_slots
returns c =
    record {
      paths = record {
        lists_are_path = record { some = omega arith; fits = ((tt, refl, omega arith), ((tt, refl), tt)) };
        null_is_path = record { some = omega arith; fits = ((refl, refl, omega arith), ((tt, refl), tt)) };
        structs_are_path = record { some = omega arith; fits = ((refl, refl, omega arith), ((refl, refl, omega arith), ((refl, refl, omega arith), ((refl, refl), tt)))) };
        nothing_is_no_path = λ h. omega (arith, h.some);
        no_leaf = λ h. omega (arith, h.fits.0.2);
        two_leaves = λ h. omega (arith, h.fits.0.1);
        mask_too_short = λ h. omega (arith, h.fits.0.0);
        too_few_items = λ h. omega (arith, h.fits.0.1);
        lists_repetition = refl;
        lists_definition = refl;
        lists_values = refl;
        lists_of_lists_repetition = refl;
        lists_in_structs_repetition = refl;
        lists_in_structs_definition = refl;
        lists_in_structs_max_repetition = refl;
        lists_in_structs_max_definition = refl;
        null_repetition = refl;
        null_definition = refl;
        null_values = refl;
        null_over_any = refl;
      };
      rows = rows;
      ranges = ranges;
    }
