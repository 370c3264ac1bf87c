use Rattle.read_state.proofs.ToldBits.{told-low}
use Rattle.read_state.proofs.block_levels.BlockLevels.know.Goals as goal

pub returns : goal.returns
returns c = rw (← c.self.view_is) (told-low c.self.inside.are_bits c.self.inside.word c.self.inside.bytes c.know_bytes.ensures)
