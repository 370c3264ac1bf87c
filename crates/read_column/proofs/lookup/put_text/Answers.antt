use Rattle.std.proofs.Common.{take, arith}
use Rattle.std.proofs.lemmas.List.{length-take-le}
use Rattle.read_column.proofs.Gathering.{fewer_put}
use Rattle.read_column.proofs.lookup.put_text.Goals as goal

pub returns : goal.returns
returns c = fewer_put c.args.at c.args.size 32 (take c.args.at c.args.out.now) c.put_chunk.new.out c.args.bytes.now (length-take-le c.args.at c.args.out.now (omega (arith, c.requires.within))) c.requires.short c.put_chunk.ensures
