use Rattle.shredding.proofs.Pieces.{pieces_are_rows}
use Rattle.shredding.proofs.pieces_are_rows.Goals as goal

pub returns : goal.returns
returns c = pieces_are_rows
