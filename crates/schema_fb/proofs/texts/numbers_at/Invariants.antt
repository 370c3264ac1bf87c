use Rattle.std.proofs.Common.{◌≡◌, ◌-◌}
use Rattle.schema_fb.specs.Places.{numbers_at}
use Rattle.schema_fb.proofs.Loops.{behind_numbers}
use Rattle.schema_fb.proofs.texts.numbers_at.Given as goal

abbrev pub invariant-ids : goal.invariant-ids
invariant-ids l = behind_numbers l.ids.items (numbers_at l.bytes (l.count - l.counter) l.at) ≡ numbers_at l.bytes l.count l.place
