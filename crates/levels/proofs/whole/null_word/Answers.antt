use Rattle.levels.proofs.Wholes.{nulls-low, nulls-set}
use Rattle.levels.proofs.whole.null_word.Goals as goal

pub returns-clause-low : goal.returns-clause-low
returns-clause-low c = nulls-low c.args.mask.now c.args.place c.args.count c.word_at.result c.requires.few c.word_at.ensures.low c.word_at.ensures.bits

pub returns-clause-nulls : goal.returns-clause-nulls
returns-clause-nulls c = nulls-set c.args.mask.now c.args.place c.args.count c.word_at.result c.requires.few c.word_at.ensures.low c.word_at.ensures.bits
