use Rattle.std.proofs.Common.{arith}
use Rattle.write_places.proofs.Picked.{next_picked}
use Rattle.page_statistics.proofs.Places.{none_begun, picked_begun}
use Rattle.page_statistics.proofs.seen.with_some.Goals as goal

pub overflow_add-place : goal.overflow_add-place
overflow_add-place g c =
    let n = next_picked c.args.bits c.args.from c.args.count (omega (arith, c.if-bits-eq0.false)) c.requires.few c.requires.low in
    omega (arith, n.within, c.requires.within, c.len-places.ensures, c.len-places.type_inv)

pub with_some-requires-in-None-2-clause-before : goal.with_some-requires-in-None-2-clause-before
with_some-requires-in-None-2-clause-before g c =
    let n = next_picked c.args.bits c.args.from c.args.count (omega (arith, c.if-bits-eq0.false)) c.requires.few c.requires.low in
    (omega (arith, n.within, c.requires.within), omega (arith, n.within, c.requires.within))

pub with_some-requires-in-None-2-clause-low : goal.with_some-requires-in-None-2-clause-low
with_some-requires-in-None-2-clause-low g c = (next_picked c.args.bits c.args.from c.args.count (omega (arith, c.if-bits-eq0.false)) c.requires.few c.requires.low).low

pub returns-in-None-clause-are : goal.returns-in-None-clause-are
returns-in-None-clause-are g c = λ places h.
    none_begun (g.L.OrderedLeaf.value c.args.leaf.now) c.args.bits c.args.from c.args.count c.if-bits-eq0.true places (rw c.in-None.is at h)

pub returns-in-None-2-clause-are : goal.returns-in-None-2-clause-are
returns-in-None-2-clause-are g c = λ places h.
    let n = next_picked c.args.bits c.args.from c.args.count (omega (arith, c.if-bits-eq0.false)) c.requires.few c.requires.low in
    picked_begun (g.L.OrderedLeaf.value c.args.leaf.now) c.args.bits _ c.args.from c.args.count _ _ n c.with_some-in-None-2.ensures.are places (rw c.in-None-2.is at h)
