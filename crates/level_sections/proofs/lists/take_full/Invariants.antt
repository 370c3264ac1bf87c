use Rattle.std.proofs.Common.{◌≡◌, ℕ, List, Bool, Option, true, ◌+◌, ◌-◌, ◌<◌, ◌≤◌, ◌++◌}
use Rattle.std.specs.Prelude.{slice_index}
use Rattle.shredding.specs.Parts.{is_present}
use Rattle.levels.specs.Sizes.{list_size}
use Rattle.level_sections.specs.Lists.{IsOpen, pending, reps_from}
use Rattle.level_sections.proofs.lists.take_full.Given as goal

abbrev pub invariant-loop-i : goal.invariant-loop-i
invariant-loop-i g l = record {
  is_open : IsOpen l.after;
  before : l.place ≤ l.i;
  within : l.i ≤ l.to;
  count : l.after.count ≡ l.fn.starts.count + (slice_index l.offsets l.i - slice_index l.offsets l.place);
  levels : (depth : ℕ) (is_optional : Bool) (mask : Option (List Bool)) → ((i : ℕ) → l.place ≤ i → i < l.to → is_present is_optional mask i ≡ true) → pending depth l.fn.starts ++ reps_from (list_size is_optional mask l.offsets) depth depth l.place (l.to - l.place) ≡ pending depth l.after ++ reps_from (list_size is_optional mask l.offsets) depth depth l.i (l.to - l.i);
}

abbrev pub decreases-loop-i : goal.decreases-loop-i
decreases-loop-i g l = l.to - l.i
