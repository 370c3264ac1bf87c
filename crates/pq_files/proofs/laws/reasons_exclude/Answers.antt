use Rattle.pq_files.proofs.Excluded.{exclude}
use Rattle.pq_files.proofs.laws.reasons_exclude.Goals as goal

pub returns : goal.returns
returns c = exclude
