use Rattle.std.proofs.Common.{arith}
use Rattle.read_walk.proofs.Joining.{one-byte}
use Rattle.read_walk.proofs.runs.begin_short.Goals as goal

pub begin_headed-requires-clause-head : goal.begin_headed-requires-clause-head
begin_headed-requires-clause-head c = one-byte c.args.levels.now.runs.values.now (omega (arith, c.in-len1-up.len_at_least)) (omega (arith, c.if-head-lt128.true))
