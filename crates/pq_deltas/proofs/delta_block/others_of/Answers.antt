use Rattle.pq_runs.proofs.DeltaParts.{drop_short, take_rest}
use Rattle.pq_deltas.proofs.delta_block.others_of.Goals as goal

pub returns-then-numbers-lt32 : goal.returns-then-numbers-lt32
returns-then-numbers-lt32 c = drop_short 32 c.args.numbers.now c.if-numbers-lt32.true

pub returns : goal.returns
returns c = take_rest 32 c.args.numbers.now
