use Rattle.read_laws.proofs.Blocks.{blocks-grow}
use Rattle.read_laws.proofs.laws.blocks_extend_columns.Goals as goal

pub returns : goal.returns
returns c = blocks-grow
