use Rattle.std.proofs.Common.{◌≡◌, ◌≤◌, ◌++◌, List, drop, Vec}
use Rattle.std.specs.Global.{Global}
use Rattle.columns_core.specs.View.{fields_view}
use Rattle.pq_tree.specs.Tree.{nesting_of}
use Rattle.pq_tree.specs.TreeViews.{trees_view}
use Rattle.pq_tree.specs.declared.types.Encoding.{Encoding}
use Rattle.schema_to_tree.specs.Table.{trees_of}
use Rattle.write_groups.specs.Laid.{AreChosen}
use Rattle.rewrite_whole.proofs.Plains.{texts_of}
use Rattle.rewrite_whole.proofs.plan.choose_encodings.Given as goal

abbrev pub invariant-loop-i : goal.invariant-loop-i
invariant-loop-i l = record {
  nesting : nesting_of (trees_view (drop l.i l.trees)) ≤ 128;
  trees : trees_view (drop l.i l.trees) ≡ trees_of (fields_view (drop l.i l.fields));
  all : (rest : List (Vec Encoding Global)) → AreChosen l.wants_deltas (fields_view (drop l.i l.fields)) (trees_view (drop l.i l.trees)) (texts_of rest) → AreChosen l.wants_deltas (fields_view l.fields) (trees_view l.trees) (texts_of (l.encodings.items ++ rest));
}
