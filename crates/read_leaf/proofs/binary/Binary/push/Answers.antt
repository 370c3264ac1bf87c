use Rattle.std.proofs.Math.Seq.{take-length}
use Rattle.read_leaf.proofs.binary.Binary.push.Goals as goal

pub returns-clause-ok : goal.returns-clause-ok
returns-clause-ok g c = rw (take-length c.args.string.now) at c.push_front.ensures.ok
