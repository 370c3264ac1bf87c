use Rattle.write_statistics.proofs.Told.{bytes_told}
use Rattle.write_statistics.proofs.bytes.ord_binary.Goals as goal

pub returns : goal.returns
returns c = rw c.cmp.ensures (bytes_told c.args.a.now c.args.b.now)
