use Rattle.write_values.proofs.AlikeTruths.{alike_by, apart_by, truths_alike, truths_apart}
use Rattle.write_values.proofs.order.truths_between.Goals as goal

pub returns-then-low-high : goal.returns-then-low-high
returns-then-low-high c = λ t. truths_alike c.args.values.now c.args.from c.args.to c.args.least c.args.greatest c.get_bit-low.result c.get_bit-high.result c.requires.within c.requires.low c.requires.high c.get_bit-low.ensures c.get_bit-high.ensures (alike_by c.get_bit-low.result c.get_bit-high.result c.if-low-high.true) (c.are_all.ensures t)

pub returns-else-low-high : goal.returns-else-low-high
returns-else-low-high c = λ t. truths_apart c.args.values.now c.args.from c.args.to c.args.least c.args.greatest c.get_bit-low.result c.get_bit-high.result c.requires.within c.requires.low c.requires.high c.get_bit-low.ensures c.get_bit-high.ensures (apart_by c.get_bit-low.result c.get_bit-high.result c.if-low-high.false) t
