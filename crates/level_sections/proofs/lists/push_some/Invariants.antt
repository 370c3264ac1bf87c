use Rattle.std.proofs.Common.{◌≡◌, ℕ, List, Bool, Option, ◌+◌, ◌-◌, ◌<◌, ◌≤◌, ◌==◌, ◌++◌}
use Rattle.std.specs.Int.{bit_at}
use Rattle.shredding.specs.Parts.{is_present}
use Rattle.levels.specs.Sizes.{list_size}
use Rattle.pq_runs.specs.Writing.{Extends}
use Rattle.level_sections.specs.Lists.{IsOpen, pending, reps_from}
use Rattle.level_sections.specs.Walk.{Goes}
use Rattle.level_sections.proofs.lists.push_some.Given as goal

abbrev pub invariant-loop-i : goal.invariant-loop-i
invariant-loop-i g l = record {
  is_open : IsOpen l.after;
  within : l.i ≤ l.count;
  width : l.writer.width ≡ l.fn.writer.width;
  kept : Extends l.fn.out.items l.out.items;
  added : (is_optional : Bool) (mask : Option (List Bool)) → ((i : ℕ) → i < l.count → (bit_at l.word i == 1) ≡ is_present is_optional mask (l.place + i)) → (start rest whole : List ℕ) → Goes start l.fn.out.items l.fn.writer (pending l.depth l.fn.starts ++ (reps_from (list_size is_optional mask l.offsets) l.depth l.depth l.place l.count ++ rest)) whole → Goes start l.out.items l.writer (pending l.depth l.after ++ (reps_from (list_size is_optional mask l.offsets) l.depth l.depth (l.place + l.i) (l.count - l.i) ++ rest)) whole;
}

abbrev pub decreases-loop-i : goal.decreases-loop-i
decreases-loop-i g l = l.count - l.i
