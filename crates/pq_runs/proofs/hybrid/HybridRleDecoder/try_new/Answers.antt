use Rattle.std.proofs.Common.{arith}
use Rattle.pq_runs.specs.State.{items}
use Rattle.pq_runs.proofs.Items.{begin_zeros, begin_runs}
use Rattle.pq_runs.proofs.hybrid.HybridRleDecoder.try_new.Goals as goal
use Rattle.pq_runs.proofs.hybrid.HybridRleDecoder.try_new.Goals.{then-num_bits-eq0, else-num_bits-eq0}

pub returns : goal.returns
unfolding items
returns c = (
  omega arith,
  elim c.if-num_bits-eq0.branch [
    | then-num_bits-eq0 w ↦ begin_zeros c.args.num_bits c.args.num_values 0 c.if-num_bits-eq0.result c.args.values.now w.if-num_bits-eq0.true w.result-is
    | else-num_bits-eq0 w ↦ begin_runs c.args.num_bits c.args.num_values 0 c.if-num_bits-eq0.result c.args.values.now w.if-num_bits-eq0.false w.result-is
  ],
)
