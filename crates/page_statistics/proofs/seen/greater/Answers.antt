use Rattle.page_statistics.proofs.Further.{greatest_kept, greatest_new}
use Rattle.page_statistics.proofs.seen.greater.Goals as goal

pub returns-then-is_less-clause-is : goal.returns-then-is_less-clause-is
returns-then-is_less-clause-is g c = greatest_new (g.L.OrderedLeaf.value c.args.leaf.now) c.args.greatest c.args.place (c.is_less.ensures.less c.if-is_less.true)

pub returns-else-is_less-clause-is : goal.returns-else-is_less-clause-is
returns-else-is_less-clause-is g c = greatest_kept (g.L.OrderedLeaf.value c.args.leaf.now) c.args.greatest c.args.place (c.is_less.ensures.other c.if-is_less.false)
