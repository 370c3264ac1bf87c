use Rattle.std.proofs.Common.{length}
use Rattle.dictionary_columns.specs.Keys.{entry_of_stored, stored_keys}
use Rattle.dictionary_columns.proofs.NextKeys.{both}
use Rattle.dictionary_columns.proofs.Refusing.{refuses-forth}
use Rattle.dictionary_columns.proofs.laws.refusals_are_entered.Goals as goal

pub returns : goal.returns
returns c = λ key o body text os vs es e k rows x. refuses-forth key o (length vs) body text (stored_keys key 0 (length vs)) es (entry_of_stored key es) os e k.typed k.outcomes (both key o body text os vs es k) rows x
