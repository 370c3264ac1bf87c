use Rattle.columns_core.proofs.Words.{low_bits_of}
use Rattle.read_leaf.proofs.bit_words.low_of.Goals as goal

pub returns-else-count-eq64-clause-bits : goal.returns-else-count-eq64-clause-bits
returns-else-count-eq64-clause-bits c = λ i h. low_bits_of c.args.word c.args.count i c.requires c.if-count-eq64.false h
