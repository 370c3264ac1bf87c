use Rattle.pq_headline.proofs.Passed as passed
use Rattle.pq_headline.proofs.PassedSchema as schema
use Rattle.pq_headline.proofs.laws.passed_is_not_refused.Goals as goal

pub returns : goal.returns
returns c = record { third = passed.third; fifth = passed.fifth; sixth = schema.sixth }
