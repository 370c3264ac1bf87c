use Rattle.pq_delta_reads.proofs.Groups.{no_bits}
use Rattle.pq_delta_reads.proofs.bits.unpack_into.Goals as goal

pub returns-then-width-eq0 : goal.returns-then-width-eq0
returns-then-width-eq0 c = no_bits c.args.width c.args.bytes.now c.if-width-eq0.true
