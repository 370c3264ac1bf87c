use Rattle.page_statistics.proofs.Places.{stretch_begun}
use Rattle.page_statistics.proofs.seen.with_stretch.Goals as goal

pub returns-in-None-clause-are : goal.returns-in-None-clause-are
returns-in-None-clause-are g c = λ places h.
    stretch_begun (g.L.OrderedLeaf.value c.args.leaf.now) c.args.from c.args.to _ c.requires.some c.with_stretch-in-None.ensures.are places (rw c.in-None.is at h)
