use Rattle.dictionary_columns.proofs.PieceKeys.{piece-entered}
use Rattle.dictionary_columns.proofs.laws.states_are_entered.Goals as goal

pub returns : goal.returns
returns c = piece-entered
