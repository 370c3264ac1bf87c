use Rattle.pq_io.proofs.Reading.{gave-behind}
use Rattle.pq_io.proofs.read.pull_behind.Goals as goal

pub returns-clause-gave : goal.returns-clause-gave
returns-clause-gave g c = gave-behind c.pull.result c.args.filled _ c.args.places.now c.pull.new.into _ _ c.requires c.pull.ensures.bound c.pull.ensures.bytes
