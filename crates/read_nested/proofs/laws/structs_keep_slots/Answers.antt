use Rattle.read_nested.proofs.Keeps.{structs-kept}
use Rattle.read_nested.proofs.laws.structs_keep_slots.Goals as goal

pub returns : goal.returns
returns c = structs-kept
