use Rattle.std.proofs.Common.{◌≡◌, min, max, drop}
use Rattle.columns_core.specs.View.{fields_view}
use Rattle.columns_core.specs.Measures.{fields_nesting}
use Rattle.schema_to_tree.proofs.depth.+nesting.Given as goal

abbrev pub invariant-fields_nesting_to-loop-field : goal.invariant-fields_nesting_to-loop-field
invariant-fields_nesting_to-loop-field l =
    max l.deepest (min l.limit (fields_nesting (fields_view (drop l.field-index l.field-items)))) ≡ min l.limit (fields_nesting (fields_view l.fields.items))
