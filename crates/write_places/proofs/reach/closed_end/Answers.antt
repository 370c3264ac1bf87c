use Rattle.std.proofs.Common.{arith}
use Rattle.levels.specs.Nested.{parts_of}
use Rattle.write_places.proofs.Closed.{closed_more}
use Rattle.write_places.proofs.reach.closed_end.Goals as goal

pub returns-then-closed-count-clause-closed : goal.returns-then-closed-count-clause-closed
returns-then-closed-count-clause-closed g c =
    let e = c.closed_lists-closed.ensures in
    closed_more (parts_of c.args.parts.now) c.args.offsets.now c.args.place c.loop-end.end c.word_size-count.result c.masked_word-word.result c.closed_lists-closed.result c.loop-end.invariant.closed c.masked_word-word.ensures.bits e.few e.closed

pub loop-end-preserved : goal.loop-end-preserved
loop-end-preserved g c =
    let i = c.loop-end.invariant in
    let n = c.word_size-count.ensures in
    let e = c.closed_lists-closed.ensures in
    record {
      after = omega (arith, i.after);
      within = omega (arith, e.few, n.within);
      closed = closed_more (parts_of c.args.parts.now) c.args.offsets.now c.args.place c.loop-end.end c.word_size-count.result c.masked_word-word.result c.closed_lists-closed.result i.closed c.masked_word-word.ensures.bits e.few e.closed;
    }
