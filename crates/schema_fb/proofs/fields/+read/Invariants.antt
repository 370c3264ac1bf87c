use Rattle.std.proofs.Common.{◌≡◌, map, ◌+◌, ◌-◌, ◌*◌}
use Rattle.columns_core.specs.View.{field_view}
use Rattle.schema_fb.specs.Places.{items_at}
use Rattle.schema_fb.specs.Reading.{field_at}
use Rattle.schema_fb.proofs.Loops.{behind}
use Rattle.schema_fb.proofs.fields.+read.Given as goal

abbrev pub decreases-field_at : goal.decreases-field_at
decreases-field_at l = 16 * l.depth

abbrev pub decreases-field_from : goal.decreases-field_from
decreases-field_from l = 16 * l.depth + 1

abbrev pub decreases-fields_at : goal.decreases-fields_at
decreases-fields_at l = 16 * l.depth + 2

abbrev pub decreases-fields_in : goal.decreases-fields_in
decreases-fields_in l = 16 * l.depth + 3

abbrev pub decreases-child_in : goal.decreases-child_in
decreases-child_in l = 16 * l.depth + 4

abbrev pub decreases-union_in : goal.decreases-union_in
decreases-union_in l = 16 * l.depth + 4

abbrev pub decreases-nested_in : goal.decreases-nested_in
decreases-nested_in l = 16 * l.depth + 5

abbrev pub decreases-type_in : goal.decreases-type_in
decreases-type_in l = 16 * l.depth + 6

abbrev pub decreases-field_in : goal.decreases-field_in
decreases-field_in l = 16 * l.depth + 7

abbrev pub invariant-fields_at-fields : goal.invariant-fields_at-fields
invariant-fields_at-fields l =
    behind (map field_view l.fields.items) (items_at (field_at l.bytes l.depth) l.bytes (l.count - l.counter) l.at l.rest)
    ≡ items_at (field_at l.bytes l.depth) l.bytes l.count l.place l.left
