use Rattle.std.proofs.Common.{◌<◌, length, map, slice_index_or, ◌∙◌, arith}
use Rattle.pq_tree.specs.Described.{column_view, IsDescribed}
use Rattle.pq_tree.specs.Views.{group_view}
use Rattle.pq_tree.proofs.Describing.{set_same, set_all}
use Rattle.pq_tree.proofs.describe.describe_groups.Goals as goal

pub loop-group-preserved : goal.loop-group-preserved
loop-group-preserved c =
    let xs = c.loop-group.group-items in
    let i = c.loop-group.group-index in
    let old = slice_index_or xs i c.group-item.result in
    let lt : i < length xs = omega arith in
    record {
      same = set_same group_view xs i _ c.group-item.result (λ j. record { chunks = c.in_ok-describe_chunks.ensures.same j; num_rows = old.num_rows }) ∙ c.loop-group.invariant.same;
      described = set_all (IsDescribed (map column_view c.args.columns.now)) xs i _ lt c.loop-group.invariant.described c.in_ok-describe_chunks.ensures.described;
    }
