use Rattle.std.proofs.Common.{arith, rules, SFits}
use Rattle.std.proofs.lemmas.Int.{to_z-of_z}
use Rattle.std.specs.Int.{w32, w64}
use Rattle.pq_tree.specs.Physical.{int32}
use Rattle.pq_delta_reads.proofs.Adding.{row_more}
use Rattle.pq_delta_reads.proofs.numbers.put_low.Goals as goal

pub loop-i-preserved : goal.loop-i-preserved
loop-i-preserved c =
    let fits : SFits w64 c.cast_signed.result = search rules in
    row_more w32 int32 4 c.loop-i.i c.loop-i.places c.put_four.new.places c.low_bytes.result c.args.numbers.now c.cast_signed.result (omega (arith, c.loop-i-test.true, c.requires)) c.put_four.ensures c.cast_signed.ensures (rw (to_z-of_z w64 c.cast_signed.result fits) at c.low_bytes.ensures) c.loop-i.invariant
