use Rattle.pq_headline.proofs.Alike.{fitting_alike}
use Rattle.pq_headline.proofs.laws.fitting_fields_are_alike.Goals as goal

pub returns : goal.returns
returns c = fitting_alike
