use Rattle.pq_files.proofs.FooterRooms as lemmas
use Rattle.pq_files.proofs.laws.rooms_are_planned.Goals as goal

pub returns : goal.returns
returns c = lemmas.rooms_are_planned
