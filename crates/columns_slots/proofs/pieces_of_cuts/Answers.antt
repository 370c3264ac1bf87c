use Rattle.columns_slots.proofs.Strings.{pieces_cut}
use Rattle.columns_slots.proofs.pieces_of_cuts.Goals as goal

pub returns : goal.returns
returns c = pieces_cut
