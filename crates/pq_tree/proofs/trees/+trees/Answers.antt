use Rattle.std.proofs.Common.{map, sym, subst, arith}
use Rattle.std.proofs.lemmas.Result.{err_from_is_err_and}
use Rattle.pq_tree.specs.TreeReading.{Gives, tree_at}
use Rattle.pq_tree.specs.TreeViews.{tree_view}
use Rattle.pq_tree.specs.Views.{element_view}
use Rattle.pq_tree.proofs.TreeLoops.{go_on, fail, end, group_step}
use Rattle.pq_tree.proofs.trees.+trees.Goals as goal

pub take_tree-returns-in-None : goal.take_tree-returns-in-None
take_tree-returns-in-None t c =
    let step = group_step c.args.depth c.args.elements.now c.element-item.result (omega arith) (omega arith) c.element-item.is c.in-None.is in
    subst (λ read. Gives (λ x. (tree_view x.0, map element_view x.1.now)) c.take_group.result read) (sym step) c.take_group.ensures

pub take_trees-returns-in_err-tree : goal.take_trees-returns-in_err-tree
take_trees-returns-in_err-tree t c =
    let p = err_from_is_err_and c.from_residual.result c.from_residual.ensures.1 in
    rw (p.1, p.2) (fail c.in_err-tree.field-0.0 (tree_at c.args.depth) c.trees.trees.items c.args.count c.trees.counter (map element_view c.trees.rest.now) _ c.trees-test.true c.in_err-tree.ensures c.trees.invariant)

pub take_trees-trees-preserved : goal.take_trees-trees-preserved
take_trees-trees-preserved t c =
    let went_on = go_on (tree_at c.args.depth) c.trees.trees.items c.args.count c.trees.counter (map element_view c.trees.rest.now) c.in_ok-tree.tree (map element_view c.in_ok-tree.after.now) _ c.trees-test.true c.in_ok-tree.ensures c.trees.invariant in
    rw c.in_ok-push.ensures.items went_on

pub take_trees-returns : goal.take_trees-returns
take_trees-returns t c = end (tree_at c.args.depth) c.trees.trees.items c.args.count c.trees.counter (map element_view c.trees.rest.now) _ c.trees-test.false c.trees.invariant
