use Rattle.std.proofs.Common.{◌≡◌, ◌-◌}
use Rattle.columns_core.specs.Meta.{texts}
use Rattle.schema_fb.specs.Places.{items_at}
use Rattle.schema_fb.specs.Reading.{entry_at}
use Rattle.schema_fb.proofs.Loops.{behind}
use Rattle.schema_fb.proofs.meta.entries_at.Given as goal

abbrev pub invariant-entries : goal.invariant-entries
invariant-entries l =
    behind (texts l.entries.items) (items_at (entry_at l.bytes) l.bytes (l.count - l.counter) l.at l.rest)
    ≡ items_at (entry_at l.bytes) l.bytes l.count l.place l.left
