use Rattle.pq_bitmaps.proofs.Spelling.{bits_spelled}
use Rattle.pq_bitmaps.proofs.laws.bits_are_spelled.Goals as goal

pub returns : goal.returns
returns c = bits_spelled c.runs_are_read.ensures
