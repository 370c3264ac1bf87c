use Rattle.read_state.proofs.ToldBits.{bytes-low}
use Rattle.read_state.proofs.block_levels.know_bytes.Goals as goal

pub returns : goal.returns
returns c = bytes-low c.args.bytes.now (λ k. (c.type_inv.bytes k).fits)
