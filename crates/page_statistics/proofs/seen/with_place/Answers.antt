use Rattle.page_statistics.proofs.Further.{place_further}
use Rattle.page_statistics.proofs.seen.with_place.Goals as goal

pub returns-clause-are : goal.returns-clause-are
returns-clause-are g c = place_further (g.L.OrderedLeaf.value c.args.leaf.now) c.args.extremes.least c.args.extremes.greatest c.lesser.result c.greater.result c.args.place c.lesser.ensures.is c.greater.ensures.is
