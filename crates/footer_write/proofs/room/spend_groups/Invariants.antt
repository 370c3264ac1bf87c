use Rattle.std.proofs.Common.{◌≡◌, ◌+◌, drop, map}
use Rattle.std.specs.List.{sum_by}
use Rattle.pq_files.specs.Room.{group_room}
use Rattle.footer_write.specs.FooterView.{row_group_view}
use Rattle.footer_write.proofs.room.spend_groups.Given as goal

abbrev pub invariant-loop-group : goal.invariant-loop-group
invariant-loop-group l = l.left + sum_by group_room (map row_group_view (drop l.group-index l.groups)) ≡ l.rest + sum_by group_room (map row_group_view l.groups)
