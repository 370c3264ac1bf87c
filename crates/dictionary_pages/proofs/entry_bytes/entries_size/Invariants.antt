use Rattle.std.proofs.Common.{◌≡◌, ◌≤◌, ◌-◌, ◌^◌, min}
use Rattle.columns_array.specs.Boxed.{boxed}
use Rattle.pq_tree.specs.Views.{physical_view}
use Rattle.pq_files.specs.Layout.{plain_length}
use Rattle.write_places.specs.Places.{range}
use Rattle.std.proofs.Common.{map}
use Rattle.dictionary_pages.specs.Entries.{stored_entry_at}
use Rattle.dictionary_pages.proofs.entry_bytes.entries_size.Given as goal

abbrev pub decreases-loop-at : goal.decreases-loop-at
decreases-loop-at l = l.count - l.at

abbrev pub invariant-loop-at : goal.invariant-loop-at
invariant-loop-at l = record {
  within : l.at ≤ l.count;
  size : l.size ≡ min (plain_length (physical_view l.physical_type) (map (stored_entry_at (boxed l.entries) (physical_view l.physical_type)) (range 0 l.at))) (2 ^ 128 - 1);
}
