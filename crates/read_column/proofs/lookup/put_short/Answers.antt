use Rattle.std.proofs.Common.{◌<◌, arith, map, take, length}
use Rattle.read_column.specs.Dictionary.{text_at}
use Rattle.read_column.proofs.Gathering.{laid_more}
use Rattle.read_column.proofs.lookup.put_short.Goals as goal

pub loop-i-preserved : goal.loop-i-preserved
loop-i-preserved c =
    let s = c.in-Some.ensures in
    let within : c.loop-i.i < length c.args.indices.now = omega (arith, c.loop-i-test.true, c.requires.few) in
    record {
      low = omega (arith, s.0, c.loop-i.invariant.low);
      laid = rw c.put_text.ensures (laid_more (map (text_at c.args.body.now) c.args.places.now) c.loop-i.i c.args.indices.now (take c.loop-i.at c.loop-i.out) (take c.in-Some.size c.in-Some.text.now) within s.2 c.loop-i.invariant.laid);
    }
