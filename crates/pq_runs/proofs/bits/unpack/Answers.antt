use Rattle.std.proofs.Common.{length, arith}
use Rattle.std.proofs.lemmas.List.{length-set}
use Rattle.pq_numbers.proofs.Bytes.{are-drop, enough_more, unpack_more, unpack_all}
use Rattle.pq_runs.proofs.bits.unpack.Goals as goal

pub loop-number-preserved : goal.loop-number-preserved
loop-number-preserved c =
    let lt = c.loop-number-test.true in
    let rest = c.skip-rest.ensures in
    let value = c.number_at.ensures in
    record {
      small = omega arith;
      enough = rw (rest, length-set) (enough_more c.args.width (length c.loop-number.out) c.loop-number.number-index c.loop-number.shift c.loop-number.rest.now (omega arith) c.loop-number.invariant.enough);
      are = rw rest (are-drop _ _ c.loop-number.invariant.are);
      unpacks = rw (rest, value, length-set) (unpack_more c.args.width 0 c.loop-number.number-index c.loop-number.shift c.loop-number.out c.loop-number.rest.now _ (omega arith) c.loop-number.invariant.are c.loop-number.invariant.unpacks);
    }

pub returns : goal.returns
returns c = rw (← c.loop-number.auto.out) (unpack_all _ _ _ _ _ (omega arith) c.loop-number.invariant.unpacks)
