use Rattle.std.proofs.Common.{arith}
use Rattle.std.proofs.lemmas.List.{length-set}
use Rattle.pq_delta_reads.specs.Waiting.{value_of}
use Rattle.pq_delta_reads.proofs.Fields.{unpack_more}
use Rattle.pq_delta_reads.proofs.bits.unpack.Goals as goal

pub loop-number-preserved : goal.loop-number-preserved
loop-number-preserved c =
    let lt = c.loop-number-test.true in
    record {
      are = c.take.ensures.are;
      unpacks = rw (c.take.ensures.value, c.take.ensures.rest, length-set) (unpack_more c.args.width c.loop-number.number-index (value_of c.loop-number.bits) c.loop-number.out _ (omega arith) c.loop-number.invariant.unpacks);
    }
