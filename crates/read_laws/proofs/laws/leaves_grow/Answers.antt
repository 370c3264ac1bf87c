use Rattle.std.proofs.Common.{false}
use Rattle.read_laws.proofs.Stretches.{leaves-step}
use Rattle.read_laws.proofs.laws.leaves_grow.Goals as goal

pub returns : goal.returns
returns c m rep level ks f = leaves-step m rep level false 0 0 ks f
