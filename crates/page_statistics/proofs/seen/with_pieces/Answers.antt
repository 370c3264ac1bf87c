use Rattle.std.proofs.Common.{◌-◌, ◌++◌, Some, arith}
use Rattle.write_places.specs.Places.{range}
use Rattle.page_statistics.proofs.Places.{stretch_none, stretch_further}
use Rattle.page_statistics.proofs.seen.with_pieces.Goals as goal

pub loop-at-init : goal.loop-at-init
loop-at-init g c = record { within = c.requires.before; from = omega arith; before = c.requires.ordered; are = λ places h. stretch_none (g.L.OrderedLeaf.value c.args.leaf.now) c.args.from (Some c.args.extremes) places h }

pub loop-at-preserved : goal.loop-at-preserved
loop-at-preserved g c =
    let i = c.loop-at.invariant in
    let e = c.piece_end-end.ensures in
    record {
      within = c.with_piece-now.ensures.within;
      from = omega (arith, i.from, e.past);
      before = e.within;
      are = λ places h. stretch_further (g.L.OrderedLeaf.value c.args.leaf.now) c.args.from c.loop-at.at _ _ places i.from (omega (arith, e.past)) (c.with_piece-now.ensures.are (places ++ range c.args.from (c.loop-at.at - c.args.from)) (i.are places h));
    }
