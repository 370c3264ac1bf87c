use Rattle.std.proofs.Common.{arith, rules, SFits}
use Rattle.std.proofs.lemmas.Int.{to_z-of_z}
use Rattle.std.specs.Int.{w64}
use Rattle.pq_tree.specs.Physical.{int64}
use Rattle.pq_delta_reads.proofs.Adding.{row_more}
use Rattle.pq_delta_reads.proofs.numbers.put_whole.Goals as goal

pub loop-i-preserved : goal.loop-i-preserved
loop-i-preserved c =
    let fits : SFits w64 c.cast_signed.result = search rules in
    row_more w64 int64 8 c.loop-i.i c.loop-i.places c.put_eight.new.places c.whole_bytes.result c.args.numbers.now c.cast_signed.result (omega (arith, c.loop-i-test.true, c.requires)) c.put_eight.ensures c.cast_signed.ensures (rw (to_z-of_z w64 c.cast_signed.result fits) at c.whole_bytes.ensures) c.loop-i.invariant
