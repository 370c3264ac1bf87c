use Rattle.std.proofs.Common.{◌≡◌, ◌≤◌, ◌++◌, map, drop}
use Rattle.columns_core.specs.Measures.{fields_nesting}
use Rattle.columns_core.specs.View.{fields_view}
use Rattle.assembly.specs.Paths.{path_view, fields_paths, fields_fault}
use Rattle.assembly.proofs.paths.+push.Given as goal

abbrev pub invariant-push_fields-loop-field : goal.invariant-push_fields-loop-field
invariant-push_fields-loop-field l =
    record {
      pushed : map path_view l.paths.items ++ fields_paths l.fn.front (fields_view (drop l.field-index l.field-items)) ≡ map path_view l.fn.paths.items ++ fields_paths l.fn.front (fields_view l.fields.items);
      sound : fields_fault (fields_view (drop l.field-index l.field-items)) ≡ fields_fault (fields_view l.fields.items);
      shallow : fields_nesting (fields_view (drop l.field-index l.field-items)) ≤ 128;
    }
