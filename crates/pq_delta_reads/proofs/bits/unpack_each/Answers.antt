use Rattle.std.proofs.Common.{refl}
use Rattle.pq_delta_reads.proofs.Groups.{as_block}
use Rattle.pq_delta_reads.proofs.bits.unpack_each.Goals as goal

pub returns : goal.returns
returns c = as_block c.args.width _ _ c.args.bytes.now refl c.unpack.ensures
