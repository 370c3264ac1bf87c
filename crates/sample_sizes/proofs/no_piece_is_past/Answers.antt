use Rattle.sample_sizes.proofs.Past.{no_piece_is_past}
use Rattle.sample_sizes.proofs.no_piece_is_past.Goals as goal

pub returns : goal.returns
returns c = no_piece_is_past
