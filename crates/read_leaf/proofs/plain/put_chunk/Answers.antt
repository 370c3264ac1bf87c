use Rattle.std.proofs.Common.{◌≡◌, ◌∙◌, length, take, arith, sym}
use Rattle.std.proofs.lemmas.List.{length-take-le}
use Rattle.std.proofs.lemmas.Simd.{put_chunk_whole}
use Rattle.read_leaf.proofs.plain.put_chunk.Goals as goal

pub returns : goal.returns
returns c = put_chunk_whole c.args.places.now (take 32 c.args.bytes.now) (c.requires.size ∙ sym (length-take-le 32 c.args.bytes.now (omega (arith, c.requires.enough))))
