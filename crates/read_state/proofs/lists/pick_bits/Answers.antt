use Rattle.read_state.proofs.Picking.{picked-all}
use Rattle.read_state.proofs.lists.pick_bits.Goals as goal

pub returns-then-pushed-eq18446744073709551615 : goal.returns-then-pushed-eq18446744073709551615
returns-then-pushed-eq18446744073709551615 c = picked-all c.args.pushed c.args.there c.if-pushed-eq18446744073709551615.true
