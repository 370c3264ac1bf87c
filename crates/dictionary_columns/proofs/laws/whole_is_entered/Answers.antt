use Rattle.dictionary_columns.proofs.NextKeys.{whole-forth}
use Rattle.dictionary_columns.proofs.laws.whole_is_entered.Goals as goal

pub returns : goal.returns
returns c = whole-forth
