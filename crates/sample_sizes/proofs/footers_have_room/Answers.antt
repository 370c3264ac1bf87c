use Rattle.sample_sizes.proofs.Rooms.{footers_have_room}
use Rattle.sample_sizes.proofs.footers_have_room.Goals as goal

pub returns : goal.returns
returns c = footers_have_room
