use Rattle.std.proofs.Common.{◌≡◌, ◌≤◌, drop}
use Rattle.columns_core.specs.Measures.{fields_nesting, fields_leaves}
use Rattle.columns_core.specs.View.{fields_view}
use Rattle.rewrite_whole.proofs.columns.+columns.Given as goal

abbrev pub invariant-have_column-loop-field : goal.invariant-have_column-loop-field
invariant-have_column-loop-field l =
    record {
      left : fields_leaves (fields_view (drop l.field-index l.field-items)) ≡ fields_leaves (fields_view l.fields.items);
      shallow : fields_nesting (fields_view (drop l.field-index l.field-items)) ≤ 128;
    }
