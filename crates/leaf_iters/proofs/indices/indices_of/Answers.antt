use Rattle.leaf_iters.proofs.Sections.{none_there}
use Rattle.leaf_iters.proofs.indices.indices_of.Goals as goal

pub returns-in-None : goal.returns-in-None
returns-in-None c = none_there c.args.count c.args.section.now c.try_new.result c.in-None.ensures.cases c.try_new.ensures
