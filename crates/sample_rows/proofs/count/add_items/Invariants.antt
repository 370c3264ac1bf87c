use Rattle.std.proofs.Common.{◌+◌, ◌≤◌}
use Rattle.columns_slots.specs.Slots.{slot_at}
use Rattle.sample_rows.proofs.Counted.{Adds}
use Rattle.sample_rows.specs.Parts.{numbers_tree}
use Rattle.sample_rows.specs.Present.{number_in}
use Rattle.sample_rows.proofs.count.add_items.Given as goal

abbrev pub invariant-loop-i : goal.invariant-loop-i
invariant-loop-i l = record {
  adds : Adds number_in (slot_at (numbers_tree l.numbers)) l.first l.i l.fn.totals l.totals;
  few : l.totals.count ≤ l.fn.totals.count + l.i;
}
