use Rattle.std.proofs.Common.{◌≤◌}
use Rattle.columns_slots.specs.Slots.{first_of, offsets_of, slot_at}
use Rattle.sample_rows.proofs.Counted.{Adds}
use Rattle.sample_rows.specs.Present.{numbers_in}
use Rattle.sample_rows.proofs.count.count_lists.Given as goal

abbrev pub invariant-loop-row : goal.invariant-loop-row
invariant-loop-row l = record {
  adds : Adds numbers_in (slot_at l.lists) 0 l.row l.initial.totals l.totals;
  few : l.totals.count ≤ first_of (offsets_of l.lists) l.row;
}
