use Rattle.pq_metadata.proofs.Framed.{are_told}
use Rattle.pq_metadata.proofs.laws.frames_are_told.Goals as goal

pub returns : goal.returns
returns c = are_told
