use Rattle.read_state.proofs.block_levels.BlockLevels.from.Goals as goal

pub returns-then-self : goal.returns-then-self
returns-then-self c = rw (← c.self.view_is, c.if-self.true) c.bits_from.ensures

pub returns : goal.returns
returns c = rw (← c.self.view_is, c.if-self.false) c.bytes_from.ensures
