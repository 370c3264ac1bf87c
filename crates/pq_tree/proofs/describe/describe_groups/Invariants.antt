use Rattle.std.proofs.Common.{◌≡◌, ◌<◌, ℕ, map, get_or}
use Rattle.pq_tree.specs.declared.types.RowGroupMetaData.{RowGroupMetaData}
use Rattle.pq_tree.specs.Described.{column_view, IsDescribed}
use Rattle.pq_tree.specs.Views.{group_view}
use Rattle.pq_tree.proofs.describe.describe_groups.Given as goal

abbrev pub invariant-loop-group : goal.invariant-loop-group
invariant-loop-group l = record {
  same : map group_view l.group-items ≡ map group_view l.initial.group-items;
  described : (k : ℕ) (d : RowGroupMetaData) → k < l.group-index → IsDescribed (map column_view l.columns) (get_or l.group-items k d);
}
