use Rattle.std.proofs.Common.{refl, arith}
use Rattle.shredding.specs.Parts.{slots_from}
use Rattle.levels.specs.Levels.{run, run_or, slot_pairs, path_pairs}
use Rattle.levels.specs.Sizes.{total, total_or_one, slot_size}
use Rattle.levels.specs.InBounds.{bounded_slot, bounded_slots}
use Rattle.levels.specs.Stretch.{like_pairs}
use Rattle.levels.proofs.laws.paths_as_worked.Goals as goal

pub returns : goal.returns
unfolding slots_from run run_or slot_pairs path_pairs total total_or_one slot_size bounded_slot bounded_slots like_pairs
returns c =
    record {
      pairs = record {
        nulls_everywhere = refl;
        null_list = refl;
        fewer_beneath = refl;
        beneath = refl;
        count = refl;
        count_with_nulls = refl;
        empty_list = refl;
        list_of_three = refl;
        null_counts_once = refl;
      };
      stretches = record { like = refl; none = refl; ends = refl; end = refl };
      ranges = record { leaf_alone = refl; struct = refl; first_offset = refl; deepest = refl; sum = refl; no_list = refl; all_lists = refl };
      bounds = record {
        more_items = record { some = omega arith; fits = ((tt, omega arith, omega arith), ((tt, refl), tt)) };
        cut = record { some = omega arith; fits = ((refl, omega arith, omega arith), ((refl, refl), tt)) };
        too_few_items = λ h. omega (arith, h.fits.0.1);
        nothing = λ h. omega (arith, h.some);
        no_leaf = λ h. omega (arith, h.fits.0.2);
        two_leaves = λ h. omega (arith, h.fits.0.1);
        longer_child = λ h. omega (arith, h.fits.0.1);
        slots = refl;
        struct_slots = refl;
      };
    }
