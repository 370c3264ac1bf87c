use Rattle.read_nested.proofs.Keeps.{leaves-kept}
use Rattle.read_nested.proofs.laws.leaves_keep_slots.Goals as goal

pub returns : goal.returns
returns c = leaves-kept
