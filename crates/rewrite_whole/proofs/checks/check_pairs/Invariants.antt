use Rattle.std.proofs.Common.{◌≡◌, ◌+◌, map, take, sum_by}
use Rattle.pq_tree.specs.Views.{group_view}
use Rattle.rewrite_whole.specs.Claims.{group_claims}
use Rattle.rewrite_whole.proofs.checks.check_pairs.Given as goal

abbrev pub invariant-loop-group : goal.invariant-loop-group
invariant-loop-group l = l.rest + sum_by group_claims (take l.group-index (map group_view l.metadata.row_groups.items)) ≡ l.pair_limit
