use Rattle.std.proofs.Common.{◌++◌, List, drop}
use Rattle.columns_array.specs.Boxed.{all_boxed}
use Rattle.columns_base.specs.declared.error.Error.{Error}
use Rattle.pq_tree.specs.TreeViews.{trees_view}
use Rattle.write_groups.proofs.Fields.{lists_of}
use Rattle.write_groups.specs.Columns.{AreGroupColumns, RefusesFields}
use Rattle.write_groups.specs.declared.column.ChunkColumn.{ChunkColumn}
use Rattle.write_groups.proofs.group.columns_of.Given as goal

abbrev pub invariant-fields : goal.invariant-fields
invariant-fields l = record {
  done : (others : List ChunkColumn) → AreGroupColumns l.options (all_boxed (drop l.i l.arrays)) (trees_view (drop l.i l.trees)) (lists_of (drop l.i l.encodings)) others → AreGroupColumns l.options (all_boxed l.arrays) (trees_view l.trees) (lists_of l.encodings) (l.columns.items ++ others);
  refused : (e : Error) → RefusesFields l.options (all_boxed (drop l.i l.arrays)) (trees_view (drop l.i l.trees)) (lists_of (drop l.i l.encodings)) e → RefusesFields l.options (all_boxed l.arrays) (trees_view l.trees) (lists_of l.encodings) e;
}
