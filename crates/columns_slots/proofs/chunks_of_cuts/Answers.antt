use Rattle.columns_slots.proofs.Strings.{chunks_cut}
use Rattle.columns_slots.proofs.chunks_of_cuts.Goals as goal

pub returns : goal.returns
returns c = chunks_cut
