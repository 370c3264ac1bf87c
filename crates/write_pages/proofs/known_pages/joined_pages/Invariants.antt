use Rattle.std.proofs.Common.{◌≤◌, ◌-◌}
use Rattle.columns_array.specs.Boxed.{boxed}
use Rattle.levels.specs.Nested.{parts_of}
use Rattle.pq_tree.specs.Views.{physical_view}
use Rattle.write_pages.specs.KnownColumns.{AreJoined}
use Rattle.write_pages.proofs.known_pages.joined_pages.Given as goal

abbrev pub decreases-loop-first : goal.decreases-loop-first
decreases-loop-first l = l.rows - l.first

abbrev pub invariant-loop-first : goal.invariant-loop-first
invariant-loop-first l = record {
  within : l.first ≤ l.rows;
  joined : AreJoined (boxed l.array) (parts_of l.nested) (physical_view l.physical_type) l.first l.joined;
}
