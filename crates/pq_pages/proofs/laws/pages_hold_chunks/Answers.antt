use Rattle.pq_pages.proofs.HeldChunks.{chunk_held}
use Rattle.pq_pages.proofs.laws.pages_hold_chunks.Goals as goal

pub returns : goal.returns
returns c = chunk_held
