use Rattle.std.proofs.Common.{◌-◌, length, take, drop, sym, arith}
use Rattle.write_values.proofs.StringRows.{chunk_size, short_front}
use Rattle.write_values.proofs.strings.put_piece.Goals as goal

pub slice_bounds-put_bytes-end : goal.slice_bounds-put_bytes-end
slice_bounds-put_bytes-end c = sym (chunk_size (take (length c.args.all.now - c.args.from) (drop c.args.from c.args.all.now)) c.in-Some.chunk.now c.in-Some.ensures.cases)

pub put_bytes-requires : goal.put_bytes-requires
put_bytes-requires c = omega (arith, chunk_size (take (length c.args.all.now - c.args.from) (drop c.args.from c.args.all.now)) c.in-Some.chunk.now c.in-Some.ensures.cases, c.requires.room)

pub returns-in-Some-clause-front : goal.returns-in-Some-clause-front
returns-in-Some-clause-front c =
    short_front c.args.at (c.args.to - c.args.from) c.args.from c.args.places.now c.put_bytes.new.places c.args.all.now c.in-Some.chunk.now (omega (arith, c.if-to-from-le32.true)) (omega (arith, c.requires.room)) c.in-Some.ensures.cases c.put_bytes.ensures.front
