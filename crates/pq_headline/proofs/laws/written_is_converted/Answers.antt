use Rattle.pq_headline.proofs.Written.{converted}
use Rattle.pq_headline.proofs.laws.written_is_converted.Goals as goal

pub returns : goal.returns
returns c = converted
