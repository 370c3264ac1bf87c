use Rattle.std.proofs.Common.{◌≡◌, ◌≤◌, ◌+◌, ◌∙◌, sum_by, take, map, get_or, ap, arith}
use Rattle.pq_tree.specs.declared.types.ColumnChunkMetaData.{ColumnChunkMetaData}
use Rattle.pq_tree.specs.Views.{chunk_view, group_view}
use Rattle.pq_headline.specs.Stages.{claimed}
use Rattle.rewrite_whole.specs.Claims.{group_claims}
use Rattle.rewrite_whole.proofs.Sums.{one_more, one_within}
use Rattle.rewrite_whole.proofs.checks.spend_group.Goals as goal

pub returns-in-None : goal.returns-in-None
returns-in-None c =
    let is = c.chunk-item.is ∙ ap (λ xs. get_or xs c.loop-chunk.chunk-index c.chunk-item.result) c.deref-chunk-items.ensures.value in
    let within : sum_by (λ m. claimed m.num_values) (take c.loop-chunk.chunk-index (map chunk_view c.args.group.now.columns.items)) + claimed c.chunk-item.result.num_values ≤ group_claims (group_view c.args.group.now) =
    one_within (λ m. claimed m.num_values) chunk_view c.args.group.now.columns.items c.loop-chunk.chunk-index c.chunk-item.result (omega (arith, c.deref-chunk-items.ensures.len)) is in
    let same : claimed c.chunk-item.result.num_values ≡ claimed (get_or c.deref-chunk-items.result.now c.loop-chunk.chunk-index c.chunk-item.result).num_values = ap (λ (x : ColumnChunkMetaData). claimed x.num_values) c.chunk-item.is in
    omega (arith, same, within, c.loop-chunk.invariant, c.in-None.ensures)

pub loop-chunk-preserved : goal.loop-chunk-preserved
loop-chunk-preserved c =
    let is = c.chunk-item.is ∙ ap (λ xs. get_or xs c.loop-chunk.chunk-index c.chunk-item.result) c.deref-chunk-items.ensures.value in
    let more : sum_by (λ m. claimed m.num_values) (take (c.loop-chunk.chunk-index + 1) (map chunk_view c.args.group.now.columns.items)) ≡ sum_by (λ m. claimed m.num_values) (take c.loop-chunk.chunk-index (map chunk_view c.args.group.now.columns.items)) + claimed c.chunk-item.result.num_values =
    one_more (λ m. claimed m.num_values) chunk_view c.args.group.now.columns.items c.loop-chunk.chunk-index c.chunk-item.result (omega (arith, c.deref-chunk-items.ensures.len)) is in
    let same : claimed c.chunk-item.result.num_values ≡ claimed (get_or c.deref-chunk-items.result.now c.loop-chunk.chunk-index c.chunk-item.result).num_values = ap (λ (x : ColumnChunkMetaData). claimed x.num_values) c.chunk-item.is in
    omega (arith, same, more, c.loop-chunk.invariant, c.in-Some.ensures)
