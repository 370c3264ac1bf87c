use Rattle.std.proofs.Common.{arith}
use Rattle.joined_statistics.proofs.Texts.{unsigned_none, unsigned_up}
use Rattle.joined_statistics.proofs.order.is_unsigned_less.Goals as goal

pub returns-then-x-y-clause-less : goal.returns-then-x-y-clause-less
returns-then-x-y-clause-less c = λ e.
    unsigned_up c.args.a.now c.args.b.now c.in-Some.x c.in-Some-unsigned_number.y c.in-Some.ensures c.in-Some-unsigned_number.ensures (omega (arith, c.if-x-y.true))

pub returns-else-x-y-clause-other : goal.returns-else-x-y-clause-other
returns-else-x-y-clause-other c = λ e t p u v o i j.
    unsigned_up c.args.b.now c.args.a.now c.in-Some-unsigned_number.y c.in-Some.x c.in-Some-unsigned_number.ensures c.in-Some.ensures (omega (arith, c.if-x-y.false)) t p v u o j i

pub returns-in-None-unsigned_number-clause-other : goal.returns-in-None-unsigned_number-clause-other
returns-in-None-unsigned_number-clause-other c = λ e t p u v o i j.
    absurd (unsigned_none c.args.b.now c.in-None-unsigned_number.ensures t p v o j)

pub returns-in-None-clause-other : goal.returns-in-None-clause-other
returns-in-None-clause-other c = λ e t p u v o i j. absurd (unsigned_none c.args.a.now c.in-None.ensures t p u o i)
