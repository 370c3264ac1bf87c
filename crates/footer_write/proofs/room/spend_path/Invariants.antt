use Rattle.std.proofs.Common.{◌≡◌, ◌+◌, drop, map}
use Rattle.std.specs.List.{sum_by}
use Rattle.std.specs.Prelude.{string_bytes}
use Rattle.pq_files.specs.Room.{name_room}
use Rattle.footer_write.proofs.room.spend_path.Given as goal

abbrev pub invariant-loop-name : goal.invariant-loop-name
invariant-loop-name l = l.left + sum_by name_room (map string_bytes (drop l.name-index l.path)) ≡ l.rest + sum_by name_room (map string_bytes l.path)
