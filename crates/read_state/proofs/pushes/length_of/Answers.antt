use Rattle.std.proofs.Common.{arith}
use Rattle.read_state.proofs.Lengths.{start-again, start-is}
use Rattle.read_state.proofs.pushes.length_of.Goals as goal

pub returns : goal.returns
returns c = start-again c.args.place c.cast_signed.result (omega arith) (start-is c.args.place c.cast_signed.result (omega arith) c.cast_signed.ensures)
