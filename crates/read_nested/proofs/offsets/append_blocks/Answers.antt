use Rattle.std.proofs.Common.{◌+◌, map, arith}
use Rattle.read_nested.proofs.Places.{blocks-more}
use Rattle.read_nested.proofs.offsets.append_blocks.Goals as goal

pub loop-at-preserved : goal.loop-at-preserved
loop-at-preserved g c =
    let number = g.O.Offset.number in
    let end = c.loop-at.at + c.min.result in
    record {
      within = omega (arith, c.min.ensures, c.loop-at.invariant.within);
      made = blocks-more (map number c.args.offsets.now.items) (map number c.loop-at.offsets.items) (map number c.append_block.new.offsets.items) c.args.starts.now c.loop-at.at end (omega arith) c.loop-at.invariant.made (c.in_ok-append_block.ensures.ok c.if-not-branch.false);
    }
