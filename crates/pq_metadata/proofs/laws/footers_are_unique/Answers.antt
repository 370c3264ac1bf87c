use Rattle.pq_metadata.proofs.FooterOnce.{footer_same}
use Rattle.pq_metadata.proofs.laws.footers_are_unique.Goals as goal

pub returns : goal.returns
returns c = footer_same
