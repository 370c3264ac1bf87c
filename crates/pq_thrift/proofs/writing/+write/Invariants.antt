use Rattle.std.proofs.Common.{◌++◌, ◌+◌, ◌*◌, pos}
use Rattle.pq_thrift.specs.Value.{values_view, pairs_view, fields_view}
use Rattle.pq_thrift.specs.Spelling.{spell_values, spell_pairs, spell_fields}
use Rattle.pq_thrift.proofs.Writes.{WritesValues, WritesPairs, WritesFields}
use Rattle.pq_thrift.proofs.writing.+write.Given as goal

abbrev pub invariant-push_list-loop-value : goal.invariant-push_list-loop-value
invariant-push_list-loop-value l = WritesValues l.out.items l.number l.value-items l.value-index (l.initial.out.items ++ spell_values (values_view l.value-items))

abbrev pub invariant-push_map-pairs : goal.invariant-push_map-pairs
invariant-push_map-pairs l = WritesPairs l.out.items l.keys l.values l.key-items l.key-index (l.initial.out.items ++ spell_pairs (pairs_view l.key-items))

abbrev pub invariant-push_fields-fields : goal.invariant-push_fields-fields
invariant-push_fields-fields l = WritesFields l.out.items l.last l.id-items l.id-index (l.fn.out.items ++ spell_fields (fields_view l.id-items) (pos 0))

abbrev pub decreases-push_value : goal.decreases-push_value
decreases-push_value l = 4 * goal.size-push_value l

abbrev pub decreases-push_list : goal.decreases-push_list
decreases-push_list l = 4 * goal.size-push_list l + 1

abbrev pub decreases-push_map : goal.decreases-push_map
decreases-push_map l = 4 * goal.size-push_map l + 1

abbrev pub decreases-push_in_field : goal.decreases-push_in_field
decreases-push_in_field l = 4 * goal.size-push_in_field l + 1

abbrev pub decreases-push_fields : goal.decreases-push_fields
decreases-push_fields l = 4 * goal.size-push_fields l + 2
