use Rattle.pq_files.proofs.NearMiss.{are_no_pages}
use Rattle.pq_files.proofs.examples.near_misses_are_no_pages.Goals as goal

pub returns : goal.returns
returns c = are_no_pages
