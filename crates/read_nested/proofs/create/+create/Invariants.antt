use Rattle.std.proofs.Common.{◌≡◌, drop}
use Rattle.std.specs.Vec.Iter.{into_iter_items}
use Rattle.columns_core.specs.View.{fields_view}
use Rattle.columns_array.specs.Boxed.{all_boxed}
use Rattle.read_nested.proofs.Each.{IsDone}
use Rattle.read_nested.proofs.create.+create.Given as goal

abbrev pub invariant-create_children-loop-field : goal.invariant-create_children-loop-field
invariant-create_children-loop-field l = record {
  same : l.children.nested ≡ l.initial.children.nested;
  done : IsDone l.initial.children.nested (fields_view l.others) (fields_view (drop l.field-index l.others)) (into_iter_items l.initial.pieces) (into_iter_items l.pieces) (all_boxed l.initial.children.arrays.items) (all_boxed l.children.arrays.items);
}
