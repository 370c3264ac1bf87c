use Rattle.std.proofs.Common.{ap}
use Rattle.pq_delta_reads.specs.Decoding.{Decoding, decoding}
use Rattle.pq_delta_reads.proofs.decoder.Decoder.taken.Goals as goal

pub returns : goal.returns
unfolding decoding
returns c = ap (λ (d : Decoding). d.taken) c.self.view_is
