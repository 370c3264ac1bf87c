use Rattle.std.proofs.Common.{drop}
use Rattle.columns_array.specs.Boxed.{all_boxed}
use Rattle.columns_core.specs.View.{fields_view}
use Rattle.columns_slots.specs.Slots.{AreTyped}
use Rattle.typed_rows.proofs.chunk.have_types.Given as goal

abbrev pub invariant-fields : goal.invariant-fields
invariant-fields l = record {
  enough : AreTyped (fields_view (drop l.i l.fields)) (all_boxed (drop l.i l.arrays)) → AreTyped (fields_view l.fields) (all_boxed l.arrays);
  needed : AreTyped (fields_view l.fields) (all_boxed l.arrays) → AreTyped (fields_view (drop l.i l.fields)) (all_boxed (drop l.i l.arrays));
}
