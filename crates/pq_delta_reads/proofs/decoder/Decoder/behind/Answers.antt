use Rattle.std.proofs.Common.{ℕ, ◌∙◌, ap, arith, drop}
use Rattle.pq_runs.proofs.DeltaParts.{take_rest}
use Rattle.pq_delta_reads.proofs.decoder.Decoder.behind.Goals as goal

pub returns : goal.returns
returns c =
    let e = c.taken-taken.ensures in
    (omega (arith, e, c.if-taken-bytes.false), take_rest c.taken-taken.result c.args.bytes.now ∙ ap (λ (k : ℕ). drop k c.args.bytes.now) e)
