use Rattle.std.proofs.Common.{◌≤◌, drop, map}
use Rattle.columns_core.specs.Measures.{fields_nesting}
use Rattle.columns_core.specs.View.{fields_view}
use Rattle.row_groups.specs.Groups.{AreNumbered}
use Rattle.row_groups.proofs.numbers.are_numbered.Given as goal

abbrev pub invariant-fields : goal.invariant-fields
invariant-fields l = record {
  enough : AreNumbered (fields_view (drop l.i l.fields)) (map (λ es. es.items) (drop l.i l.encodings)) → AreNumbered (fields_view l.fields) (map (λ es. es.items) l.encodings);
  needed : AreNumbered (fields_view l.fields) (map (λ es. es.items) l.encodings) → AreNumbered (fields_view (drop l.i l.fields)) (map (λ es. es.items) (drop l.i l.encodings));
  shallow : fields_nesting (fields_view (drop l.i l.fields)) ≤ 128;
}
