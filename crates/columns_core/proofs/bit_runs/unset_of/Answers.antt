use Rattle.columns_core.proofs.Packed.{unset_byte}
use Rattle.std.proofs.Common.{refl}
use Rattle.columns_core.proofs.bit_runs.unset_of.Goals as goal

pub returns : goal.returns
returns c = unset_byte c.args.byte _ c.ranges.byte.fits refl
