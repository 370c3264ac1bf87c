use Rattle.read_state.proofs.block_levels.BlockLevels.last.Goals as goal

pub returns-then-self : goal.returns-then-self
returns-then-self c = rw (← c.self.view_is, c.if-self.true) c.highest_bit.ensures
