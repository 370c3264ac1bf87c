use Rattle.std.proofs.Common.{◌∙◌, ◌+◌, ◌%◌}
use Rattle.pq_numbers.proofs.Writes.{writes_more, writes_end, one_more}
use Rattle.pq_numbers.proofs.varint.push_digits.Goals as goal

pub loop-left-preserved : goal.loop-left-preserved
loop-left-preserved c = rw c.in_ok-push.ensures.items (record {
  writes = writes_more c.loop-left.out.items c.loop-left.left _ c.loop-left-test.true c.loop-left.invariant.writes;
  some = one_more c.args.out.now.items c.loop-left.out.items c.loop-left.invariant.some.0 (c.loop-left.left % 128 + 128) c.loop-left.invariant.some.1;
})

pub returns-clause-ok : goal.returns-clause-ok
returns-clause-ok c = c.in_ok-push-2.ensures.items ∙ writes_end c.loop-left.out.items c.loop-left.left _ c.loop-left-test.false c.loop-left.invariant.writes
