use Rattle.std.proofs.Common.{◌≡◌, take, map}
use Rattle.pq_thrift.specs.Value.{view, pair_view, field_view}
use Rattle.pq_thrift.proofs.clone.+copy.Given as goal

abbrev pub invariant-copy_values-loop-value : goal.invariant-copy_values-loop-value
invariant-copy_values-loop-value l = map view l.copies.items ≡ map view (take l.value-index l.value-items)

abbrev pub invariant-copy_pairs-loop-key : goal.invariant-copy_pairs-loop-key
invariant-copy_pairs-loop-key l = map pair_view l.copies.items ≡ map pair_view (take l.key-index l.key-items)

abbrev pub invariant-copy_fields-loop-id : goal.invariant-copy_fields-loop-id
invariant-copy_fields-loop-id l = map field_view l.copies.items ≡ map field_view (take l.id-index l.id-items)
