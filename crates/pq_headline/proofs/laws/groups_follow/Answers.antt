use Rattle.pq_headline.proofs.Written.{read_none, read_more}
use Rattle.pq_headline.proofs.laws.groups_follow.Goals as goal

pub returns : goal.returns
returns c = record { none = read_none; more = read_more }
