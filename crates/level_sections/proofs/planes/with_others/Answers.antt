use Rattle.std.proofs.Common.{arith}
use Rattle.level_sections.proofs.PlaneNumbers.{planes-same}
use Rattle.level_sections.proofs.planes.with_others.Goals as goal

pub returns-clause-behind : goal.returns-clause-behind
returns-clause-behind c = λ i h. omega (arith, c.joined.ensures.back i h, c.joined-2.ensures.back i h, c.joined-3.ensures.back i h)

pub returns-clause-levels : goal.returns-clause-levels
returns-clause-levels c = λ low.
    planes-same low c.args.pending.planes (record { ones = c.joined.result; twos = c.joined-2.result; fours = c.joined-3.result }) c.args.pending.count
    (λ i h. omega (arith, c.joined.ensures.front i h, c.joined-2.ensures.front i h, c.joined-3.ensures.front i h))
