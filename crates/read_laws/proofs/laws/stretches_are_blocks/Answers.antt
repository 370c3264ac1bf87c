use Rattle.read_laws.proofs.Blocks.{stretches-blocks}
use Rattle.read_laws.proofs.laws.stretches_are_blocks.Goals as goal

pub returns : goal.returns
returns c = stretches-blocks
