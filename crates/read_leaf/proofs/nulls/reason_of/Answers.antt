use Rattle.std.proofs.Common.{arith}
use Rattle.read_leaf.proofs.NothingRead.{missing, present}
use Rattle.read_leaf.proofs.nulls.reason_of.Goals as goal

pub returns-then-bytes-count : goal.returns-then-bytes-count
returns-then-bytes-count c = λ slots. missing c.args.count c.args.bytes.now slots c.if-bytes-count.true

pub returns-else-bytes-count : goal.returns-else-bytes-count
returns-else-bytes-count c = λ slots. present c.args.count c.args.bytes.now slots c.requires (omega (arith, c.if-bytes-count.false))
