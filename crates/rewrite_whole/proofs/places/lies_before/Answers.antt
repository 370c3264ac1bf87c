use Rattle.std.proofs.Common.{rules, nat_abs}
use Rattle.rewrite_whole.proofs.places.lies_before.Goals as goal

pub returns : goal.returns
returns c = record {
  num_values = nat_abs c.args.chunk.now.num_values;
  has_num_values = search rules;
  start = nat_abs c.start_in-start.result;
  starts = search rules;
  behind_magic = search rules;
  size = nat_abs c.args.chunk.now.total_compressed_size;
  has_size = search rules;
  before = search rules;
}
