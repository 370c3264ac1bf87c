use Rattle.std.proofs.Common.{ℕ, ◌+◌, ◌∙◌, ap}
use Rattle.pq_delta_reads.specs.Decoding.{Decoding, decoding}
use Rattle.pq_delta_reads.proofs.decoder.Decoder.len.Goals as goal

pub returns : goal.returns
unfolding decoding
returns c = ap (λ (n : ℕ). n + c.self.inside.state.standing + c.self.inside.state.left) c.len.ensures.value ∙ ap (λ (d : Decoding). d.left) c.self.view_is
