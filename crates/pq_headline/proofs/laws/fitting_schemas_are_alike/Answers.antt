use Rattle.pq_headline.proofs.Alike.{fitting_all_alike}
use Rattle.pq_headline.proofs.laws.fitting_schemas_are_alike.Goals as goal

pub returns : goal.returns
returns c = fitting_all_alike
