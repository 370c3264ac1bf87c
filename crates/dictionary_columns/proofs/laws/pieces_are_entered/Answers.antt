use Rattle.std.proofs.Common.{length}
use Rattle.dictionary_columns.proofs.Entered.{EntryKey}
use Rattle.dictionary_columns.proofs.PieceKeys.{values-good}
use Rattle.dictionary_columns.proofs.NextKeys.{next-forth}
use Rattle.dictionary_columns.proofs.laws.pieces_are_entered.Goals as goal

pub returns : goal.returns
returns c = λ stored limit key o body text os vs es pieces ts now k next r. (let n = next-forth stored limit key o body text os vs es pieces ts now k next r in (n.0, values-good (EntryKey (length vs)) ts n.1))
