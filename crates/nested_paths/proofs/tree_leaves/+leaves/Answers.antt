use Rattle.std.proofs.Common.{◌≡◌, refl, ap, ◌∙◌, map, rules}
use Rattle.pq_tree.specs.Tree.{group, leaves, leaves_of}
use Rattle.pq_tree.specs.TreeViews.{info_view, tree_view, trees_view}
use Rattle.pq_tree.specs.declared.types.ParquetType.{the_lemmas}
use Rattle.nested_paths.specs.Leaves.{node_of}
use Rattle.nested_paths.proofs.Ends.{group_ends, nodes_step}
use Rattle.nested_paths.proofs.tree_leaves.+leaves.Goals as goal

pub push_all_leaves-loop-node-init : goal.push_all_leaves-loop-node-init
push_all_leaves-loop-node-init t c = rw c.into_iter-node-iterator.ensures.into_iter_gives.0 refl

pub push_all_leaves-loop-node-preserved : goal.push_all_leaves-loop-node-preserved
push_all_leaves-loop-node-preserved t c =
    nodes_step _ _ c.in-Some.node c.loop-node.node-iterator.rest.items c.next.new.self.rest.items _ c.in-Some.ensures.steps.0 c.loop-node.invariant c.in_ok-push_leaves.ensures.ok

pub push_leaves-returns-clause-ok : goal.push_leaves-returns-clause-ok
push_leaves-returns-clause-ok t c =
    let g = c.in-GroupType in
    let info = info_view g.field_info g.converted_type g.logical_type in
    let viewed : tree_view c.args.node ≡ group info (trees_view g.fields.items) = search (rules, the_lemmas) in
    let ends : map node_of (leaves (tree_view c.args.node)) ≡ map node_of (leaves_of (trees_view g.fields.items)) =
    ap (λ t. map node_of (leaves t)) viewed ∙ group_ends info (trees_view g.fields.items) in
    rw ends c.push_all_leaves.ensures.ok
