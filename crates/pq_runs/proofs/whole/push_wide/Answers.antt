use Rattle.pq_numbers.proofs.Bytes.{are-drop}
use Rattle.pq_runs.proofs.Decoding.{skip_fits, enough_left, unpacked_more}
use Rattle.pq_runs.proofs.whole.push_wide.Goals as goal

pub skip-rest-requires : goal.skip-rest-requires
skip-rest-requires c = skip_fits c.args.width c.loop-left.left c.loop-left.rest.now c.loop-left-test.true c.loop-left.invariant.enough

pub loop-left-preserved : goal.loop-left-preserved
loop-left-preserved c = rw c.skip-rest.ensures (record {
  are = are-drop _ _ c.loop-left.invariant.are;
  enough = enough_left c.args.width c.loop-left.left c.loop-left.rest.now c.loop-left-test.true c.loop-left.invariant.enough;
  so_far = unpacked_more c.args.width c.loop-left.left c.loop-left.numbers.items c.push_few.new.numbers.items _ c.loop-left.rest.now c.loop-left-test.true c.loop-left.invariant.are c.in_ok-push_few.ensures.ok c.loop-left.invariant.so_far;
})
