use Rattle.std.proofs.Common.{◌+◌, drop, arith}
use Rattle.columns_core.specs.View.{field_view, fields_view}
use Rattle.pq_tree.specs.TreeViews.{tree_view, trees_view}
use Rattle.rewrite_whole.proofs.Misfitting.{drop_on}
use Rattle.rewrite_whole.proofs.Plains.{chosen_all, chosen_more, nest_on, tail_of, tree_left, trees_on}
use Rattle.rewrite_whole.proofs.plan.choose_encodings.Goals as goal

pub loop-i-preserved : goal.loop-i-preserved
loop-i-preserved c =
    let xs = c.args.fields.now in
    let ts = c.args.trees.now in
    let i = c.loop-i.i in
    let x = c.index-fields-i.result in
    let t = c.index-trees-i.result in
    let fs = fields_view (drop i xs) in
    let gs = fields_view (drop (i + 1) xs) in
    let e = drop_on xs i x (omega (arith, c.loop-i-test.true)) c.index-fields-i.is in
    let k = trees_on ts i t (tree_left ts i fs (field_view x) gs e c.loop-i.invariant.trees) c.index-trees-i.is in
    record {
      nesting = nest_on (trees_view (drop i ts)) (tree_view t) (trees_view (drop (i + 1) ts)) k c.loop-i.invariant.nesting;
      trees = (tail_of fs (field_view x) gs (trees_view (drop i ts)) (tree_view t) (trees_view (drop (i + 1) ts)) e k c.loop-i.invariant.trees).1;
      all = chosen_more c.args.wants_deltas x (fields_view xs) fs gs (trees_view ts) (trees_view (drop i ts)) (tree_view t) (trees_view (drop (i + 1) ts)) c.loop-i.encodings.items c.push.new.self.items c.in_ok-encodings_in.field-0 e k c.in_ok-encodings_in.ensures.ok c.in_ok-push.ensures.items c.loop-i.invariant.all;
    }

pub returns-clause-ok : goal.returns-clause-ok
returns-clause-ok c = chosen_all c.args.wants_deltas c.args.fields.now c.args.trees.now c.loop-i.i c.loop-i.encodings.items (omega (arith, c.loop-i-test.false)) c.loop-i.invariant.trees c.loop-i.invariant.all
