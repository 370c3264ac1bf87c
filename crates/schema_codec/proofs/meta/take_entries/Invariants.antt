use Rattle.std.proofs.Common.{◌≡◌, ◌-◌}
use Rattle.columns_core.specs.Meta.{texts}
use Rattle.schema_codec.specs.Parse.{items_at}
use Rattle.schema_codec.specs.Reading.{entry_at}
use Rattle.schema_codec.proofs.Loops.{behind}
use Rattle.schema_codec.proofs.meta.take_entries.Given as goal

abbrev pub invariant-entries : goal.invariant-entries
invariant-entries l = behind (texts l.entries.items) (items_at entry_at (l.count - l.counter) l.rest) ≡ items_at entry_at l.count l.bytes
