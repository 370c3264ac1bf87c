use Rattle.pq_headline.proofs.Written.{group_of}
use Rattle.pq_headline.proofs.laws.groups_are_read.Goals as goal

pub returns : goal.returns
returns c = group_of
