use Rattle.std.proofs.Common.{◌+◌, Some, arith}
use Rattle.write_places.specs.Places.{picked}
use Rattle.write_places.proofs.Picked.{next_picked}
use Rattle.page_statistics.proofs.Kept.{kept, all_of_picked}
use Rattle.page_statistics.proofs.Places.{partly_all, partly_more, one_less}
use Rattle.page_statistics.proofs.seen.search_some.Goals as goal

pub returns-then-are_calm-clause-are : goal.returns-then-are_calm-clause-are
returns-then-are_calm-clause-are g c = λ places h.
    kept (g.L.OrderedLeaf.value c.args.leaf.now) (Some c.args.extremes) c.args.from (c.args.from + c.args.count) (picked c.args.bits c.args.from c.args.count) places (c.are_calm.ensures c.if-are_calm.true) (all_of_picked c.args.bits c.args.from c.args.count) h

pub overflow_add-from : goal.overflow_add-from
overflow_add-from g c =
    let n = next_picked c.loop-left.left c.args.from c.args.count (omega (arith, c.loop-left-test.true)) c.requires.few c.loop-left.invariant.low in
    omega (arith, n.within, c.requires.within, c.len-places.ensures, c.len-places.type_inv)

pub with_place-now-requires-clause-place : goal.with_place-now-requires-clause-place
with_place-now-requires-clause-place g c =
    let n = next_picked c.loop-left.left c.args.from c.args.count (omega (arith, c.loop-left-test.true)) c.requires.few c.loop-left.invariant.low in
    omega (arith, n.within, c.requires.within)

pub loop-left-smaller : goal.loop-left-smaller
loop-left-smaller g c =
    let n = next_picked c.loop-left.left c.args.from c.args.count (omega (arith, c.loop-left-test.true)) c.requires.few c.loop-left.invariant.low in
    omega (arith, one_less _ _ _ _ _ n)

pub loop-left-preserved : goal.loop-left-preserved
loop-left-preserved g c =
    let n = next_picked c.loop-left.left c.args.from c.args.count (omega (arith, c.loop-left-test.true)) c.requires.few c.loop-left.invariant.low in
    record {
      low = n.low;
      within = c.with_place-now.ensures.within;
      partly = partly_more (g.L.OrderedLeaf.value c.args.leaf.now) (Some c.args.extremes) (Some c.loop-left.now) _ (picked c.args.bits c.args.from c.args.count) c.loop-left.left _ c.args.from c.args.count _ c.loop-left.invariant.partly n c.with_place-now.ensures.are;
    }

pub returns-clause-are : goal.returns-clause-are
returns-clause-are g c =
    partly_all (g.L.OrderedLeaf.value c.args.leaf.now) (Some c.args.extremes) (Some c.loop-left.now) (picked c.args.bits c.args.from c.args.count) c.loop-left.left c.args.from c.args.count c.loop-left.invariant.partly c.loop-left-test.false
