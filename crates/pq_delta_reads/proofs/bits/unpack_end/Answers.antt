use Rattle.std.proofs.Common.{◌∙◌}
use Rattle.pq_delta_reads.proofs.Groups.{same_block}
use Rattle.pq_delta_reads.proofs.bits.unpack_end.Goals as goal

pub returns : goal.returns
returns c = c.unpack_groups.ensures ∙ same_block c.args.width c.padded.result c.args.bytes.now c.padded.ensures
