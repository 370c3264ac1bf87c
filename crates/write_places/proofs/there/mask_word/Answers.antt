use Rattle.write_places.proofs.Bits.{full_bits}
use Rattle.write_places.proofs.there.mask_word.Goals as goal

pub returns-then-not-is_optional-clause-bits : goal.returns-then-not-is_optional-clause-bits
returns-then-not-is_optional-clause-bits c = λ i h.
    rw c.if-not-is_optional.true (full_bits c.full_word.result c.args.count i c.full_word.ensures h)

pub returns-in-None-clause-bits : goal.returns-in-None-clause-bits
returns-in-None-clause-bits c = λ i h.
    rw (c.if-not-is_optional.false, c.in-None.is) (full_bits c.full_word-in-None.result c.args.count i c.full_word-in-None.ensures h)
