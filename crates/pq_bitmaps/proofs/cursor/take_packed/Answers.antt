use Rattle.std.proofs.Common.{arith}
use Rattle.columns_core.proofs.Bits.{length_bits}
use Rattle.pq_bitmaps.proofs.Truths.{packed_called}
use Rattle.pq_bitmaps.proofs.cursor.take_packed.Goals as goal

pub returns-clause-part : goal.returns-clause-part
returns-clause-part c =
    let count = c.standing-count.ensures in
    (omega (arith, count), omega (arith, count, length_bits c.args.body.now 0 c.standing-count.result))

pub returns-clause-ok : goal.returns-clause-ok
returns-clause-ok c = packed_called c.args.cursor.now.left c.standing-count.result c.args.cursor.now.bytes.now c.args.body.now c.args.rest.now c.requires.some c.requires.run c.standing-count.ensures (λ i. omega (arith, c.type_inv.body i))
