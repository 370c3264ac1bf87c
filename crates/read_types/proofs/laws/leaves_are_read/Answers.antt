use Rattle.read_types.proofs.KindsRead.{leaves-read}
use Rattle.read_types.proofs.laws.leaves_are_read.Goals as goal

pub returns : goal.returns
returns c = leaves-read
