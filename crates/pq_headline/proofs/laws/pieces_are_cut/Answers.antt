use Rattle.pq_headline.proofs.Cutting.{cut_is}
use Rattle.pq_headline.proofs.laws.pieces_are_cut.Goals as goal

pub returns : goal.returns
returns c = λ n left ps s. cut_is n left ps s
