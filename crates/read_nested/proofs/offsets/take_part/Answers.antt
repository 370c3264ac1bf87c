use Rattle.read_nested.proofs.Each.{popped}
use Rattle.read_nested.proofs.offsets.take_part.Goals as goal

pub returns-clause-part : goal.returns-clause-part
returns-clause-part c = (popped c.pop.result c.args.nested.now c.pop.new.self c.pop.ensures).0

pub returns-clause-taken : goal.returns-clause-taken
returns-clause-taken c = (popped c.pop.result c.args.nested.now c.pop.new.self c.pop.ensures).1
