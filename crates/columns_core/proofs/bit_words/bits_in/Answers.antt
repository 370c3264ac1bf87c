use Rattle.std.proofs.Common.{ap, ◌==◌}
use Rattle.columns_core.proofs.Words.{last_bit}
use Rattle.columns_core.proofs.bit_words.bits_in.Goals as goal

pub returns-clause-bits : goal.returns-clause-bits
returns-clause-bits c =
    λ i h.
    last_bit c.args.bytes.now c.last_bytes-last.result c.args.at c.args.count i c.word_in-2.result _ c.requires.within h c.requires.few c.last_bytes-last.ensures.front c.word_in-2.ensures
    (ap (λ b. b == 1) (c.low_of-2.ensures.bits i h))
