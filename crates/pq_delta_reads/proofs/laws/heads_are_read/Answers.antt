use Rattle.pq_delta_reads.proofs.Whole.{head_has, has_found}
use Rattle.pq_delta_reads.proofs.laws.heads_are_read.Goals as goal

pub returns : goal.returns
returns c = λ bytes h. (has_found bytes h, head_has bytes h)
