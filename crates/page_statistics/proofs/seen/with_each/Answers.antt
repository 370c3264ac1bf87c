use Rattle.std.proofs.Common.{◌-◌, ◌++◌, Some, arith}
use Rattle.write_places.specs.Places.{range}
use Rattle.page_statistics.proofs.Places.{stretch_none, stretch_more}
use Rattle.page_statistics.proofs.seen.with_each.Goals as goal

pub loop-place-init : goal.loop-place-init
loop-place-init g c = record { within = c.requires.before; from = omega arith; are = λ places h. stretch_none (g.L.OrderedLeaf.value c.args.leaf.now) c.args.from (Some c.args.extremes) places h }

pub loop-place-preserved : goal.loop-place-preserved
loop-place-preserved g c =
    let i = c.loop-place.invariant in
    record {
      within = c.with_place-now.ensures.within;
      from = omega (arith, i.from);
      are = λ places h. stretch_more (g.L.OrderedLeaf.value c.args.leaf.now) c.args.from c.loop-place.place _ places i.from (c.with_place-now.ensures.are (places ++ range c.args.from (c.loop-place.place - c.args.from)) (i.are places h));
    }
