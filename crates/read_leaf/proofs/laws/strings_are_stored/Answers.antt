use Rattle.read_leaf.proofs.TextsStored.{strings-stored}
use Rattle.read_leaf.proofs.laws.strings_are_stored.Goals as goal

pub returns : goal.returns
returns c = strings-stored
