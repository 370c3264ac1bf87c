use Rattle.std.proofs.Common.{◌-◌, sym}
use Rattle.write_places.specs.Places.{range}
use Rattle.page_statistics.proofs.Places.{length_range, sees_more}
use Rattle.page_statistics.proofs.taker.LookingTaker.take.Goals as goal

pub returns-clause-taken : goal.returns-clause-taken
returns-clause-taken g c = λ first places h.
    let more = range c.args.from (c.args.to - c.args.from) in
    (h.0, sees_more (g.L.OrderedLeaf.value first.leaf.now) places more first.seen c.args.self.now.seen _ (c.args.to - c.args.from) h.1 (sym (length_range c.args.from (c.args.to - c.args.from))) c.saturating_add.ensures (rw (← h.0) c.with_stretch-extremes.ensures.are))
