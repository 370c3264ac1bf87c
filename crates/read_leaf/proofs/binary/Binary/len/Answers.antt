use Rattle.std.proofs.Common.{arith}
use Rattle.columns_slots.proofs.Strings.{pieces_len}
use Rattle.read_leaf.proofs.binary.Binary.len.Goals as goal

pub returns : goal.returns
returns g c = rw (← c.self.view_is) (omega (arith, pieces_len c.self.inside.offsets.0 c.self.inside.values.items, c.len_proxy.ensures))
