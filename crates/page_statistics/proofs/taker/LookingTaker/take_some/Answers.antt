use Rattle.std.proofs.Common.{sym}
use Rattle.write_places.specs.Places.{picked}
use Rattle.write_places.proofs.Picked.{length_picked}
use Rattle.page_statistics.proofs.Places.{sees_more}
use Rattle.page_statistics.proofs.taker.LookingTaker.take_some.Goals as goal

pub returns-clause-taken : goal.returns-clause-taken
returns-clause-taken g c = λ first places h.
    let more = picked c.args.bits c.args.from c.args.count in
    (h.0, sees_more (g.L.OrderedLeaf.value first.leaf.now) places more first.seen c.args.self.now.seen _ _ h.1 (sym (length_picked c.args.bits c.args.from c.args.count c.requires.low)) c.saturating_add.ensures (rw (← h.0) c.with_some-extremes.ensures.are))
