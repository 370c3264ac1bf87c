use Rattle.pq_headline.proofs.Plain.{all_plain}
use Rattle.pq_headline.proofs.laws.served_is_plain.Goals as goal

pub returns : goal.returns
returns c = all_plain c.rows_decide.ensures
