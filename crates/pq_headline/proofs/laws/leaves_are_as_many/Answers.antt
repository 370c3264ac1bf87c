use Rattle.pq_headline.proofs.Plain.{as_many}
use Rattle.pq_headline.proofs.laws.leaves_are_as_many.Goals as goal

pub returns : goal.returns
returns c = as_many c.rows_decide.ensures
