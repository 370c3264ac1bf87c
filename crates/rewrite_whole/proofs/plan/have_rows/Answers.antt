use Rattle.std.proofs.Common.{rules, ◌+◌, drop, arith}
use Rattle.columns_core.specs.View.{field_view, fields_view}
use Rattle.pq_tree.specs.TreeViews.{tree_view, trees_view}
use Rattle.rewrite_whole.proofs.Misfitting.{drop_on, shallow_on}
use Rattle.rewrite_whole.proofs.Plains.{tail_of, trees_on, no_row, its_row, rows_on, any_on, any_here, nest_on, tree_left}
use Rattle.rewrite_whole.proofs.plan.have_rows.Goals as goal

pub returns-then-not-fits : goal.returns-then-not-fits
returns-then-not-fits c =
    let xs = c.deref-field-items.result.now in
    let e = drop_on xs c.loop-i.i c.field-item.result (omega arith) c.field-item.is in
    let k = trees_on c.args.trees.now c.loop-i.i c.index-trees-i.result (tree_left c.args.trees.now c.loop-i.i (fields_view (drop c.loop-i.i xs)) (field_view c.field-item.result) (fields_view (drop (c.loop-i.i + 1) xs)) e c.loop-i.invariant.trees) c.index-trees-i.is in
    let t = tail_of (fields_view (drop c.loop-i.i xs)) (field_view c.field-item.result) (fields_view (drop (c.loop-i.i + 1) xs)) (trees_view (drop c.loop-i.i c.args.trees.now)) (tree_view c.index-trees-i.result) (trees_view (drop (c.loop-i.i + 1) c.args.trees.now)) e k c.loop-i.invariant.trees in
    c.loop-i.invariant.any (any_here (fields_view (drop c.loop-i.i xs)) (field_view c.field-item.result) (fields_view (drop (c.loop-i.i + 1) xs)) e (no_row c.rows_decide.ensures (field_view c.field-item.result) (tree_view c.index-trees-i.result) t.0 (search rules)))

pub loop-i-preserved : goal.loop-i-preserved
loop-i-preserved c =
    let xs = c.deref-field-items.result.now in
    let e = drop_on xs c.loop-i.i c.field-item.result (omega arith) c.field-item.is in
    let k = trees_on c.args.trees.now c.loop-i.i c.index-trees-i.result (tree_left c.args.trees.now c.loop-i.i (fields_view (drop c.loop-i.i xs)) (field_view c.field-item.result) (fields_view (drop (c.loop-i.i + 1) xs)) e c.loop-i.invariant.trees) c.index-trees-i.is in
    let t = tail_of (fields_view (drop c.loop-i.i xs)) (field_view c.field-item.result) (fields_view (drop (c.loop-i.i + 1) xs)) (trees_view (drop c.loop-i.i c.args.trees.now)) (tree_view c.index-trees-i.result) (trees_view (drop (c.loop-i.i + 1) c.args.trees.now)) e k c.loop-i.invariant.trees in
    record {
      shallow = shallow_on xs c.loop-i.i c.field-item.result (omega arith) c.field-item.is c.loop-i.invariant.shallow;
      nesting = nest_on (trees_view (drop c.loop-i.i c.args.trees.now)) (tree_view c.index-trees-i.result) (trees_view (drop (c.loop-i.i + 1) c.args.trees.now)) k c.loop-i.invariant.nesting;
      trees = t.1;
      all = λ h. c.loop-i.invariant.all (rows_on (fields_view (drop c.loop-i.i xs)) (field_view c.field-item.result) (fields_view (drop (c.loop-i.i + 1) xs)) e (its_row c.rows_decide.ensures (field_view c.field-item.result) (tree_view c.index-trees-i.result) t.0 (search rules)) h);
      any = λ h. c.loop-i.invariant.any (any_on (fields_view (drop c.loop-i.i xs)) (field_view c.field-item.result) (fields_view (drop (c.loop-i.i + 1) xs)) e h);
    }
