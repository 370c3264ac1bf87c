use Rattle.std.proofs.Common.{arith}
use Rattle.std.proofs.lemmas.Int.{ints}
use Rattle.joined_statistics.proofs.Texts.{signed_none, signed_up}
use Rattle.joined_statistics.proofs.order.is_signed_less.Goals as goal

pub returns-then-x-y-clause-less : goal.returns-then-x-y-clause-less
returns-then-x-y-clause-less c = λ e.
    signed_up c.args.a.now c.args.b.now c.in-Some.x c.in-Some-signed_number.y c.in-Some.ensures c.in-Some-signed_number.ensures (omega (arith, ints, c.if-x-y.true))

pub returns-else-x-y-clause-other : goal.returns-else-x-y-clause-other
returns-else-x-y-clause-other c = λ e t p u v o i j.
    signed_up c.args.b.now c.args.a.now c.in-Some-signed_number.y c.in-Some.x c.in-Some-signed_number.ensures c.in-Some.ensures (omega (arith, ints, c.if-x-y.false)) t p v u o j i

pub returns-in-None-signed_number-clause-other : goal.returns-in-None-signed_number-clause-other
returns-in-None-signed_number-clause-other c = λ e t p u v o i j.
    absurd (signed_none c.args.b.now c.in-None-signed_number.ensures t p v o j)

pub returns-in-None-clause-other : goal.returns-in-None-clause-other
returns-in-None-clause-other c = λ e t p u v o i j. absurd (signed_none c.args.a.now c.in-None.ensures t p u o i)
