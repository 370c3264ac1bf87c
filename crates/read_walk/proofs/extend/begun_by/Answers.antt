use Rattle.std.proofs.Common.{sym}
use Rattle.read_walk.proofs.Walking.{rows-zero, rows-none}
use Rattle.read_walk.proofs.extend.begun_by.Goals as goal

pub returns-then-rep-eq0 : goal.returns-then-rep-eq0
returns-then-rep-eq0 c = sym (rows-zero c.args.count c.args.rep c.if-rep-eq0.true)

pub returns-else-rep-eq0 : goal.returns-else-rep-eq0
returns-else-rep-eq0 c = sym (rows-none c.args.count c.args.rep c.if-rep-eq0.false)
