use Rattle.read_leaf.specs.Loads.{loaded-stored}
use Rattle.read_leaf.proofs.laws.loaded_is_stored.Goals as goal

pub returns : goal.returns
returns c = loaded-stored
