use Rattle.std.proofs.Common.{◌≡◌, ◌+◌, map, take, sum_by}
use Rattle.pq_tree.specs.Views.{chunk_view}
use Rattle.pq_headline.specs.Stages.{claimed}
use Rattle.rewrite_whole.proofs.checks.spend_group.Given as goal

abbrev pub invariant-loop-chunk : goal.invariant-loop-chunk
invariant-loop-chunk l = l.rest + sum_by (λ m. claimed m.num_values) (take l.chunk-index (map chunk_view l.group.columns.items)) ≡ l.left
