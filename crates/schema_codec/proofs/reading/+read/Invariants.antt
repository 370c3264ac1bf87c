use Rattle.std.proofs.Common.{◌≡◌, map, ◌+◌, ◌-◌, ◌*◌}
use Rattle.columns_core.specs.View.{field_view}
use Rattle.schema_codec.specs.Parse.{items_at}
use Rattle.schema_codec.specs.Reading.{field_at}
use Rattle.schema_codec.proofs.Loops.{behind}
use Rattle.schema_codec.proofs.reading.+read.Given as goal

abbrev pub decreases-take_type : goal.decreases-take_type
decreases-take_type l = 8 * l.depth

abbrev pub decreases-take_field : goal.decreases-take_field
decreases-take_field l = 8 * l.depth + 1

abbrev pub decreases-take_dictionary : goal.decreases-take_dictionary
decreases-take_dictionary l = 8 * l.depth + 1

abbrev pub decreases-take_extension : goal.decreases-take_extension
decreases-take_extension l = 8 * l.depth + 1

abbrev pub decreases-take_boxed : goal.decreases-take_boxed
decreases-take_boxed l = 8 * l.depth + 2

abbrev pub decreases-take_some_fields : goal.decreases-take_some_fields
decreases-take_some_fields l = 8 * l.depth + 2

abbrev pub decreases-take_fields : goal.decreases-take_fields
decreases-take_fields l = 8 * l.depth + 3

abbrev pub decreases-take_union : goal.decreases-take_union
decreases-take_union l = 8 * l.depth + 4

abbrev pub decreases-take_nested : goal.decreases-take_nested
decreases-take_nested l = 8 * l.depth + 5

abbrev pub decreases-take_parts : goal.decreases-take_parts
decreases-take_parts l = 8 * l.depth + 6

abbrev pub invariant-take_some_fields-fields : goal.invariant-take_some_fields-fields
invariant-take_some_fields-fields l =
    behind (map field_view l.fields.items) (items_at (field_at l.depth) (l.count - l.counter) l.rest)
    ≡ items_at (field_at l.depth) l.count l.bytes
