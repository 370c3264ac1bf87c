use Rattle.std.proofs.Common.{length}
use Rattle.dictionary_columns.proofs.KeyRows.{rows-could-be}
use Rattle.dictionary_columns.proofs.NextKeys.{both}
use Rattle.dictionary_columns.proofs.laws.rows_could_be.Goals as goal

pub returns : goal.returns
returns c = λ key o body text os vs es rows k a. rows-could-be key o (length vs) body text es os rows k.outcomes k.few k.definition (both key o body text os vs es k) a
