use Rattle.std.proofs.Common.{◌≡◌, ◌+◌, drop, map}
use Rattle.std.specs.List.{sum_by}
use Rattle.pq_tree.specs.Views.{key_view}
use Rattle.pq_files.specs.Room.{key_room}
use Rattle.footer_write.proofs.room.spend_keys.Given as goal

abbrev pub invariant-loop-key : goal.invariant-loop-key
invariant-loop-key l = l.left + sum_by key_room (map key_view (drop l.key-index l.keys)) ≡ l.rest + sum_by key_room (map key_view l.keys)
