use Rattle.columns_slots.specs.Bytes.{chunks_values}
use Rattle.read_leaf.proofs.Chunks.{values-count}
use Rattle.read_leaf.proofs.fixed_bytes.FixedBytesDecoderNestedDecoder.push_valid.Goals as goal

pub returns-in-Ok-clause-ok : goal.returns-in-Ok-clause-ok
returns-in-Ok-clause-ok c = record {
  values = chunks_values c.args.self.now.size c.args.count c.in-Some.strings.now;
  size = values-count c.args.self.now.size c.args.count c.in-Some.strings.now;
  taken = c.in-Some.ensures.1;
  pushed = rw (← c.requires.suits) c.in-Ok.ensures.ok;
}
