use Rattle.std.proofs.Common.{ap, ◌==◌}
use Rattle.columns_core.proofs.Words.{last_bit}
use Rattle.read_leaf.proofs.bit_words.last_bits.Goals as goal

pub returns-clause-bits : goal.returns-clause-bits
returns-clause-bits c =
    λ i h.
    last_bit c.args.bytes.now c.last_bytes-last.result c.args.at c.args.count i c.word_in.result _ c.requires.within h c.requires.few c.last_bytes-last.ensures.front c.word_in.ensures
    (ap (λ b. b == 1) (c.low_of.ensures.bits i h))
