use Rattle.pq_headline.proofs.Settling.{settled}
use Rattle.pq_headline.proofs.laws.settled_schemas_fit.Goals as goal

pub returns : goal.returns
returns c = settled
