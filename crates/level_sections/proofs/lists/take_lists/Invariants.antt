use Rattle.std.proofs.Common.{◌≡◌, ℕ, List, Bool, Option, ◌+◌, ◌-◌, ◌<◌, ◌≤◌, ◌==◌, ◌++◌}
use Rattle.std.specs.Prelude.{slice_index}
use Rattle.std.specs.Int.{bit_at}
use Rattle.shredding.specs.Parts.{is_present}
use Rattle.levels.specs.Sizes.{list_size}
use Rattle.level_sections.specs.Lists.{IsOpen, pending, reps_from}
use Rattle.level_sections.proofs.lists.take_lists.Given as goal

abbrev pub invariant-loop-i : goal.invariant-loop-i
invariant-loop-i g l = record {
  is_open : IsOpen l.after;
  before : l.from ≤ l.i;
  within : l.i ≤ l.count;
  start : l.at ≡ slice_index l.offsets (l.place + l.i);
  levels : (depth : ℕ) (is_optional : Bool) (mask : Option (List Bool)) → ((i : ℕ) → i < l.count → (bit_at l.word i == 1) ≡ is_present is_optional mask (l.place + i)) → pending depth l.fn.starts ++ reps_from (list_size is_optional mask l.offsets) depth depth (l.place + l.from) (l.count - l.from) ≡ pending depth l.after ++ reps_from (list_size is_optional mask l.offsets) depth depth (l.place + l.i) (l.count - l.i);
}

abbrev pub decreases-loop-i : goal.decreases-loop-i
decreases-loop-i g l = l.count - l.i
