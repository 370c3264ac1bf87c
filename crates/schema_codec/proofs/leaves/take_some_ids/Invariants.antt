use Rattle.std.proofs.Common.{◌≡◌, ◌-◌}
use Rattle.schema_codec.specs.Parse.{items_at}
use Rattle.schema_codec.specs.Reading.{id_at}
use Rattle.schema_codec.proofs.Loops.{behind}
use Rattle.schema_codec.proofs.leaves.take_some_ids.Given as goal

abbrev pub invariant-ids : goal.invariant-ids
invariant-ids l = behind l.ids.items (items_at id_at (l.count - l.counter) l.rest) ≡ items_at id_at l.count l.bytes
