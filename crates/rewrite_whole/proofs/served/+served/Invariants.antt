use Rattle.std.proofs.Common.{◌≡◌, ◌≤◌, drop}
use Rattle.columns_core.specs.Measures.{fields_nesting}
use Rattle.columns_core.specs.View.{fields_view}
use Rattle.pq_headline.specs.Served.{are_served_fields}
use Rattle.rewrite_whole.proofs.served.+served.Given as goal

abbrev pub invariant-are_fields_served-loop-field : goal.invariant-are_fields_served-loop-field
invariant-are_fields_served-loop-field l =
    record {
      left : are_served_fields (fields_view (drop l.field-index l.field-items)) ≡ are_served_fields (fields_view l.fields.items);
      shallow : fields_nesting (fields_view (drop l.field-index l.field-items)) ≤ 128;
    }
