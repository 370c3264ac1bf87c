use Rattle.std.proofs.Common.{ap, ◌∙◌}
use Rattle.read_walk.specs.Values.{ones}
use Rattle.read_leaf.proofs.SetBits.{ones-bits}
use Rattle.read_leaf.proofs.set_bits.count_set.Goals as goal

pub returns : goal.returns
returns c = ones-bits c.args.count c.low_bits.result c.low_bits.ensures.below ∙ ap ones c.low_bits.ensures.same
