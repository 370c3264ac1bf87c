use Rattle.std.proofs.Common.{rules, ◌+◌, sym, subst, arith}
use Rattle.columns_core.specs.View.{field_view, fields_view}
use Rattle.pq_tree.specs.TreeViews.{tree_view, trees_view}
use Rattle.pq_headline.specs.Stages.{fields_with_columns, trees_with_columns}
use Rattle.rewrite_whole.proofs.Misfitting.{Left, LeftFields, LeftTrees, skipped, taken, went_by, went_on, nest_at, ended, shallow_on}
use Rattle.rewrite_whole.proofs.misfit.is_misfit.Goals.{then-is_with_columns+in-Some+else-not-agrees, else-is_with_columns}
use Rattle.rewrite_whole.proofs.misfit.is_misfit.Goals as goal

pub agrees-requires-clause-tree : goal.agrees-requires-clause-tree
agrees-requires-clause-tree c = omega (arith, nest_at c.args.trees.now c.in-Some.place c.index-trees-place.result c.in-Some.ensures.0 c.index-trees-place.is, c.requires.trees)

pub loop-field-preserved : goal.loop-field-preserved
loop-field-preserved c =
    let fs = fields_with_columns (fields_view c.args.fields.now.items) in
    let ts = trees_with_columns (trees_view c.args.trees.now) in
    let xs = c.deref-field-items.result.now in
    let i = c.loop-field.field-index in
    let f = field_view c.field-item.result in
    record {
      shallow = shallow_on xs i c.field-item.result (omega arith) c.field-item.is c.loop-field.invariant.shallow;
      left = elim c.if-is_with_columns.branch [
        | then-is_with_columns+in-Some+else-not-agrees w ↦
            let on : Left fs (LeftFields xs (i + 1)) ts (LeftTrees c.args.trees.now (w.in-Some.place + 1)) =
            went_on fs (LeftFields xs i) (LeftFields xs (i + 1)) ts (LeftTrees c.args.trees.now c.loop-field.at) (LeftTrees c.args.trees.now (w.in-Some.place + 1)) f (tree_view w.index-trees-place.result)
            (taken xs i c.field-item.result (omega arith) c.field-item.is (search rules)) (w.in-Some.ensures.1 w.index-trees-place.result w.index-trees-place.is) (search rules) c.loop-field.invariant.left in
            subst (λ n. Left fs (LeftFields xs (i + 1)) ts (LeftTrees c.args.trees.now n)) (sym w.at-is) on
        | else-is_with_columns w ↦
            let on : Left fs (LeftFields xs (i + 1)) ts (LeftTrees c.args.trees.now c.loop-field.at) =
            went_by fs (LeftFields xs i) (LeftFields xs (i + 1)) ts (LeftTrees c.args.trees.now c.loop-field.at) (skipped xs i c.field-item.result (omega arith) c.field-item.is (search rules)) c.loop-field.invariant.left in
            subst (λ n. Left fs (LeftFields xs (i + 1)) ts (LeftTrees c.args.trees.now n)) (sym w.at-is) on
      ];
    }

pub returns : goal.returns
returns c =
    ended (fields_view c.args.fields.now.items) c.args.trees.now c.deref-field-items.result.now c.loop-field.field-index c.loop-field.at c.next_tree-2.result c.is_some.result (omega arith) c.loop-field.invariant.left (search rules) c.next_tree-2.ensures
