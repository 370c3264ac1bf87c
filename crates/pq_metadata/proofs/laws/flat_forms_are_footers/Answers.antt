use Rattle.pq_metadata.proofs.Flat.{flat_same}
use Rattle.pq_metadata.proofs.laws.flat_forms_are_footers.Goals as goal

pub returns : goal.returns
returns c = flat_same
