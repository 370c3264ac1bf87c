use Rattle.pq_pages.proofs.Named as named
use Rattle.pq_pages.proofs.laws.encodings_are_numbered.Goals as goal

pub returns : goal.returns
returns c = named.encodings_are_numbered
