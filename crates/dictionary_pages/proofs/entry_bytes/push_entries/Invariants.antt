use Rattle.std.proofs.Common.{◌≤◌, ◌-◌, map}
use Rattle.columns_array.specs.Boxed.{boxed}
use Rattle.pq_tree.specs.Views.{physical_view}
use Rattle.write_places.specs.Places.{range}
use Rattle.write_values.specs.Rows.{AppendsRow}
use Rattle.dictionary_pages.specs.Entries.{stored_entry_at}
use Rattle.dictionary_pages.proofs.entry_bytes.push_entries.Given as goal

abbrev pub decreases-loop-at : goal.decreases-loop-at
decreases-loop-at l = l.count - l.at

abbrev pub invariant-loop-at : goal.invariant-loop-at
invariant-loop-at l = record {
  within : l.at ≤ l.count;
  row : AppendsRow (physical_view l.physical_type) l.fn.out.items l.out.items (map (stored_entry_at (boxed l.entries) (physical_view l.physical_type)) (range 0 l.at));
}
