use Rattle.read_state.proofs.ToldBits.{last-bit}
use Rattle.read_state.proofs.block_levels.highest_bit.Goals as goal

pub returns : goal.returns
returns c = last-bit c.args.word c.ranges.word.fits
