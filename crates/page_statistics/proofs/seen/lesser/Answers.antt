use Rattle.page_statistics.proofs.Further.{least_kept, least_new}
use Rattle.page_statistics.proofs.seen.lesser.Goals as goal

pub returns-then-is_less-clause-is : goal.returns-then-is_less-clause-is
returns-then-is_less-clause-is g c = least_new (g.L.OrderedLeaf.value c.args.leaf.now) c.args.least c.args.place (c.is_less.ensures.less c.if-is_less.true)

pub returns-else-is_less-clause-is : goal.returns-else-is_less-clause-is
returns-else-is_less-clause-is g c = least_kept (g.L.OrderedLeaf.value c.args.leaf.now) c.args.least c.args.place (c.is_less.ensures.other c.if-is_less.false)
