use Rattle.read_state.proofs.block_levels.BlockLevels.at.Goals as goal

pub returns-then-self : goal.returns-then-self
returns-then-self c = rw (← c.self.view_is, c.if-self.true) c.bits_at.ensures

pub returns : goal.returns
returns c = rw (← c.self.view_is, c.if-self.false) c.bytes_at.ensures
