use Rattle.std.proofs.Common.{◌≤◌, drop}
use Rattle.columns_core.specs.View.{fields_view}
use Rattle.columns_core.specs.Measures.{fields_nesting}
use Rattle.columns_core.proofs.nesting.+nests.Given as goal

abbrev pub invariant-all_nest_within-loop-field : goal.invariant-all_nest_within-loop-field
invariant-all_nest_within-loop-field l = record {
  enough : fields_nesting (fields_view (drop l.field-index l.field-items)) ≤ l.limit → fields_nesting (fields_view l.fields.items) ≤ l.limit;
  needed : fields_nesting (fields_view l.fields.items) ≤ l.limit → fields_nesting (fields_view (drop l.field-index l.field-items)) ≤ l.limit;
}
