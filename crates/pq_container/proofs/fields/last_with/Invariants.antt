use Rattle.std.proofs.Common.{◌≡◌, take}
use Rattle.std.specs.Prelude.{option_map}
use Rattle.std.specs.Option.{option_copied}
use Rattle.pq_thrift.specs.Value.{view, fields_view}
use Rattle.pq_metadata.specs.Ids.{get}
use Rattle.pq_container.proofs.fields.last_with.Given as goal

abbrev pub invariant-loop-number : goal.invariant-loop-number
invariant-loop-number l = option_map view (option_copied l.found) ≡ get l.id (fields_view (take l.number-index l.fields))
