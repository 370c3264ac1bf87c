use Rattle.dictionary_leaves.proofs.Flat.{pairs_are_plain}
use Rattle.dictionary_leaves.proofs.entries.plain_pairs.Goals as goal

pub returns : goal.returns
returns c = pairs_are_plain c.args.count c.try_new.result c.try_new.ensures
