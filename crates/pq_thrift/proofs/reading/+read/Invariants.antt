use Rattle.std.proofs.Common.{◌≡◌, ◌≤◌, ◌+◌, ◌-◌, ◌*◌, length}
use Rattle.pq_thrift.specs.Reading.{field_with, part_with, values_at, pair_with, pairs_at, value_at, struct_at}
use Rattle.pq_thrift.proofs.Loops.{under, before_values, before_pairs, Reads}
use Rattle.pq_thrift.proofs.reading.+read.Given as goal

abbrev pub decreases-take_value : goal.decreases-take_value
decreases-take_value l = 6 * l.depth

abbrev pub decreases-take_part : goal.decreases-take_part
decreases-take_part l = 6 * l.depth + 1

abbrev pub decreases-take_field : goal.decreases-take_field
decreases-take_field l = 6 * l.depth + 1

abbrev pub decreases-take_pair : goal.decreases-take_pair
decreases-take_pair l = 6 * l.depth + 2

abbrev pub decreases-take_values : goal.decreases-take_values
decreases-take_values l = 6 * l.depth + 3

abbrev pub decreases-take_pairs : goal.decreases-take_pairs
decreases-take_pairs l = 6 * l.depth + 3

abbrev pub decreases-take_list : goal.decreases-take_list
decreases-take_list l = 6 * l.depth + 4

abbrev pub decreases-take_map : goal.decreases-take_map
decreases-take_map l = 6 * l.depth + 4

abbrev pub decreases-take_struct : goal.decreases-take_struct
decreases-take_struct l = 6 * l.depth + 4

abbrev pub decreases-take_element : goal.decreases-take_element
decreases-take_element l = 6 * l.depth + 5

abbrev pub invariant-take_struct-fields : goal.invariant-take_struct-fields
invariant-take_struct-fields l =
    (length l.rest ≤ length l.bytes)
    × Reads (field_with (value_at l.depth)) l.fields.items l.last l.rest (struct_at l.depth l.bytes)

abbrev pub decreases-take_struct-fields : goal.decreases-take_struct-fields
decreases-take_struct-fields l = length l.rest

abbrev pub invariant-take_values-values : goal.invariant-take_values-values
invariant-take_values-values l =
    (length l.rest ≤ length l.bytes)
    × (under (before_values l.values.items) (values_at (part_with (value_at l.depth) l.number) (l.count - l.counter) l.rest) ≡ values_at (part_with (value_at l.depth) l.number) l.count l.bytes)

abbrev pub invariant-take_pairs-pairs : goal.invariant-take_pairs-pairs
invariant-take_pairs-pairs l =
    (length l.rest ≤ length l.bytes)
    × (under (before_pairs l.pairs.items) (pairs_at (pair_with (part_with (value_at l.depth) l.keys) (part_with (value_at l.depth) l.values)) (l.count - l.counter) l.rest) ≡ pairs_at (pair_with (part_with (value_at l.depth) l.keys) (part_with (value_at l.depth) l.values)) l.count l.bytes)
