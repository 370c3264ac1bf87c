use Rattle.std.proofs.Common.{◌<◌, length, arith}
use Rattle.std.proofs.lemmas.Bool.{and_parts}
use Rattle.std.proofs.lemmas.List.{length-set}
use Rattle.read_nested.proofs.Places.{filled-more}
use Rattle.read_nested.proofs.offsets.fill_offsets.Goals as goal

pub loop-i-preserved : goal.loop-i-preserved
loop-i-preserved g c =
    let v = c.loop-i.invariant in
    let inside : c.loop-i.i < length c.args.starts.now = omega (arith, c.loop-i-test.true) in
    record {
      size = rw length-set v.size;
      filled = λ is.
          let both = and_parts _ _ is in
          filled-more g.O.Offset.number c.loop-i.places c.offset_of-offset.result.0 c.args.starts.now c.loop-i.i _ (omega (arith, inside, v.size)) inside c.cast_unsigned.ensures (c.offset_of-offset.ensures both.1) (v.filled both.0);
    }
