use Rattle.pq_metadata.proofs.HeaderOnce.{page_header_same}
use Rattle.pq_metadata.proofs.laws.headers_are_unique.Goals as goal

pub returns : goal.returns
returns c = page_header_same
