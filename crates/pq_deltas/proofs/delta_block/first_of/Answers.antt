use Rattle.pq_runs.proofs.DeltaParts.{take_short}
use Rattle.pq_deltas.proofs.delta_block.first_of.Goals as goal

pub returns-then-numbers-lt32 : goal.returns-then-numbers-lt32
returns-then-numbers-lt32 c = take_short 32 c.args.numbers.now c.if-numbers-lt32.true
