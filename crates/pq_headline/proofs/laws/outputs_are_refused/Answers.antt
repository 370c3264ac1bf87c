use Rattle.pq_headline.proofs.Refused.{of_chunk, of_footer}
use Rattle.pq_headline.proofs.laws.outputs_are_refused.Goals as goal

pub returns : goal.returns
returns c = record { chunk = of_chunk; footer = of_footer }
