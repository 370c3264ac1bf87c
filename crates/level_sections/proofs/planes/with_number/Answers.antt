use Rattle.std.proofs.Common.{arith}
use Rattle.std.proofs.lemmas.Nat.Bits.{bit_at_lowest}
use Rattle.level_sections.proofs.PlaneNumbers.{planes-next}
use Rattle.level_sections.proofs.planes.with_number.Goals as goal

pub returns-clause-behind : goal.returns-clause-behind
returns-clause-behind c = λ i h. omega (arith, c.inserted.ensures.above i h, c.inserted-2.ensures.above i h, c.inserted-3.ensures.above i h)

pub returns-clause-levels : goal.returns-clause-levels
returns-clause-levels c = λ low.
    planes-next low c.args.pending.planes (record { ones = c.inserted.result; twos = c.inserted-2.result; fours = c.inserted-3.result }) c.args.pending.count c.args.bit
    (λ i h. omega (arith, c.inserted.ensures.below i h, c.inserted-2.ensures.below i h, c.inserted-3.ensures.below i h))
    (omega (arith, c.inserted.ensures.here, c.inserted-2.ensures.here, c.inserted-3.ensures.here, bit_at_lowest c.args.bit, bit_at_lowest 0, c.requires.bit))
