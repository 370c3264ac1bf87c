use Rattle.schema_key.proofs.Last.{the_last_counts}
use Rattle.schema_key.proofs.laws.the_last_counts.Goals as goal

pub returns : goal.returns
returns c = the_last_counts
