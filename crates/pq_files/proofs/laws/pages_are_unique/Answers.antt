use Rattle.pq_files.proofs.PageOnce.{page_same}
use Rattle.pq_files.proofs.laws.pages_are_unique.Goals as goal

pub returns : goal.returns
returns c = page_same
