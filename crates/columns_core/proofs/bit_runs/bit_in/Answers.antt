use Rattle.std.proofs.Common.{refl}
use Rattle.columns_core.proofs.Bits.{bit_read}
use Rattle.columns_core.proofs.bit_runs.bit_in.Goals as goal

pub returns : goal.returns
returns c = bit_read c.args.bytes.now c.args.at _ refl
